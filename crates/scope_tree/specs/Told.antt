-- What a tree call tells, in this paper's numbers. Assumes nothing.
use Rattle.std.specs.Prelude.{ℕ, ◌≡◌, Option, Some, None, Result, Ok, Err}
use Rattle.std.proofs.Common.{arith, ap, sym, ◌∙◌}
use Rattle.refusal.specs.declared.Cause.{Cause}
use Rattle.refusal.specs.Numbers.{number_of, causes, cause_of, cause-number}

pub data Told : Type 0 where
  Done : Told
  -- get_alias and get_function: the mark of the entry
  Mark : ℕ → Told
  -- a number of the table; its place is 0
  Refused : ℕ → Told

-- of a call that changes the tree, of one that asks, and of either
abbrev pub done_told : {A : Type 0} → Result A Cause → Told
done_told (Ok x) = Done
done_told (Err c) = Refused (number_of c)

abbrev pub mark_told : Result ℕ Cause → Told
mark_told (Ok m) = Mark m
mark_told (Err c) = Refused (number_of c)

abbrev pub call_told : Result (Option ℕ) Cause → Told
call_told (Ok None) = Done
call_told (Ok (Some m)) = Mark m
call_told (Err c) = Refused (number_of c)

-- the number of a cause is none's
pub number-some : (c : Cause) → number_of c ≡ 0 → ⊥
unfolding cause_of causes
number-some c e = let f : Some c ≡ None = sym (cause-number c) ∙ ap cause_of e in let z : ◌≡◌ {A = ℕ} 0 1 = cc in omega arith
