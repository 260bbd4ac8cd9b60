-- `names::keyword::is_keyword` meets its contract: `any` over the table's words. Assumes nothing.
use Rattle.std.proofs.Common.{rules, tests, ◌≡◌, ◌∙◌, eqb, refl, Bor, List, ℕ, ap, map}
use Rattle.std.specs.Cmp.Lexicographic.{pointwise}
use Rattle.std.proofs.lemmas.Iterator.{YieldsList-from_slice}
use Rattle.std.proofs.lemmas.Iterator.Search.{any_from_yields_List}
use Rattle.names.specs.Bytes.{member_is, member, ascii}
use Rattle.names.specs.Keywords.{is_keyword, keywords}
use Rattle.names.proofs.keyword.is_keyword.Goals as goal

pub returns : goal.returns
unfolding is_keyword keywords ascii
returns c =
    let s = c.args.s.now in
    let words = c.iter.result.rest.now in
    let e : map (λ (w : Bor (List ℕ)). w.now) words ≡ keywords = ap (map (λ (w : Bor (List ℕ)). w.now)) c.iter.ensures.rest in
    any_from_yields_List (λ w. pointwise eqb s w.now) _ _ _ c.any.ensures.ran (YieldsList-from_slice words refl) (λ x b q k. search (rules, tests))
    ∙ member_is (λ (w : Bor (List ℕ)). w.now) s words ∙ ap (member s) e
