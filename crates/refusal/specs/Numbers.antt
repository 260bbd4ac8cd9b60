-- The specification's number of each cause of a refusal, and the cause of each number. Assumes nothing.
use Rattle.std.specs.Prelude.{ℕ, ◌≡◌, refl, List, [], ◌∷◌, Option, Some, None, get_or}
use Rattle.std.proofs.Common.{ap, sym, ◌∙◌}
use Rattle.refusal.specs.declared.Cause.{Cause}
use Rattle.refusal.specs.declared.Cause.TheVariants.{Cut, Version, TooMany, BadPath, BadName, BadKind, Twice, Orphan, Nowhere, NoFolder, Reserved, OddName, SameRemapping, SmallBuffer, LongImage, EmptyUse, UnknownLibrary, NoLibraryFile, NoFile, OwnFile, NoRoot, Ring, NoMain, ForeignEnum, UnknownUnit, NoCrateWord, NoModule, PrivateModule, NoItem, PrivateItem, Clash, AliasMain, ModuleTwice, TypeTwice, FunctionTwice, NotInside, TreeFull, BadLine}
use Rattle.refusal.specs.declared.Refusal.{Refusal}

abbrev pub number_of : Cause → ℕ
number_of Cut = 1
number_of Version = 2
number_of TooMany = 3
number_of BadPath = 4
number_of BadName = 5
number_of BadKind = 6
number_of Twice = 7
number_of Orphan = 8
number_of Nowhere = 9
number_of NoFolder = 10
number_of Reserved = 11
number_of OddName = 12
number_of SameRemapping = 13
number_of SmallBuffer = 14
number_of LongImage = 15
number_of EmptyUse = 20
number_of UnknownLibrary = 21
number_of NoLibraryFile = 22
number_of NoFile = 23
number_of OwnFile = 24
number_of NoRoot = 25
number_of Ring = 26
number_of NoMain = 27
number_of ForeignEnum = 28
number_of UnknownUnit = 29
number_of NoCrateWord = 40
number_of NoModule = 41
number_of PrivateModule = 42
number_of NoItem = 43
number_of PrivateItem = 44
number_of Clash = 45
number_of AliasMain = 46
number_of ModuleTwice = 47
number_of TypeTwice = 48
number_of FunctionTwice = 49
number_of NotInside = 50
number_of TreeFull = 51
number_of BadLine = 52

-- a cause and a place
abbrev pub refusal : Cause → ℕ → Refusal
refusal c p = record { cause = c; place = p }

-- THE CAUSE OF A NUMBER: the causes in the order of their numbers, from 0 on; 16 to 19 and 30 to 39 are none's
unfoldable pub causes : List (Option Cause)
causes =
    None ∷ Some Cut ∷ Some Version ∷ Some TooMany ∷ Some BadPath ∷ Some BadName ∷ Some BadKind ∷ Some Twice ∷ Some Orphan ∷ Some Nowhere ∷ Some NoFolder ∷ Some Reserved ∷ Some OddName ∷ Some SameRemapping ∷ Some SmallBuffer ∷ Some LongImage ∷ None ∷ None ∷ None ∷ None ∷ Some EmptyUse ∷ Some UnknownLibrary ∷ Some NoLibraryFile ∷ Some NoFile ∷ Some OwnFile ∷ Some NoRoot ∷ Some Ring ∷ Some NoMain ∷ Some ForeignEnum ∷ Some UnknownUnit ∷ None ∷ None ∷ None ∷ None ∷ None ∷ None ∷ None ∷ None ∷ None ∷ None ∷ Some NoCrateWord ∷ Some NoModule ∷ Some PrivateModule ∷ Some NoItem ∷ Some PrivateItem ∷ Some Clash ∷ Some AliasMain ∷ Some ModuleTwice ∷ Some TypeTwice ∷ Some FunctionTwice ∷ Some NotInside ∷ Some TreeFull ∷ Some BadLine ∷ []

unfoldable pub cause_of : ℕ → Option Cause
cause_of n = get_or causes n None

pub cause-number : (c : Cause) → cause_of (number_of c) ≡ Some c
unfolding cause_of causes
cause-number Cut = refl
cause-number Version = refl
cause-number TooMany = refl
cause-number BadPath = refl
cause-number BadName = refl
cause-number BadKind = refl
cause-number Twice = refl
cause-number Orphan = refl
cause-number Nowhere = refl
cause-number NoFolder = refl
cause-number Reserved = refl
cause-number OddName = refl
cause-number SameRemapping = refl
cause-number SmallBuffer = refl
cause-number LongImage = refl
cause-number EmptyUse = refl
cause-number UnknownLibrary = refl
cause-number NoLibraryFile = refl
cause-number NoFile = refl
cause-number OwnFile = refl
cause-number NoRoot = refl
cause-number Ring = refl
cause-number NoMain = refl
cause-number ForeignEnum = refl
cause-number UnknownUnit = refl
cause-number NoCrateWord = refl
cause-number NoModule = refl
cause-number PrivateModule = refl
cause-number NoItem = refl
cause-number PrivateItem = refl
cause-number Clash = refl
cause-number AliasMain = refl
cause-number ModuleTwice = refl
cause-number TypeTwice = refl
cause-number FunctionTwice = refl
cause-number NotInside = refl
cause-number TreeFull = refl
cause-number BadLine = refl

-- no number is that of two causes
pub number-inj : (c d : Cause) → number_of c ≡ number_of d → c ≡ d
number-inj c d e =
    let f : Some c ≡ Some d = sym (cause-number c) ∙ (ap cause_of e ∙ cause-number d) in
    cc
