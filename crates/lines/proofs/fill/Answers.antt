-- What one more read put behind what was read so far.
use Rattle.std.proofs.Common.{rules, ◌+◌, ◌-◌, ◌≤◌, ◌≡◌, ◌++◌, ℕ, List, length, take, ap, sym, ◌∙◌, subst, length-take-le}
use Rattle.std.proofs.Math.Seq.{take-append-add}
use Rattle.std.proofs.lemmas.List.{take-append-le}
use Rattle.std.specs.Io.KnownBytes.{Consumes}
use Rattle.std.proofs.KnownBytes.{Consumes-trans}
use borrow.Rule.Slice.PartMut.{put_mid, post_of}
use Rattle.lines.proofs.fill.Goals as goal

take_both : (n k m : ℕ) (xs ys : List ℕ) → n ≤ length xs → m ≤ length ys → take (n + m) (put_mid n k xs ys) ≡ take n xs ++ take m ys
take_both n k m xs ys p q =
    ap (λ i. take (i + m) (put_mid n k xs ys)) (sym (length-take-le n xs p))
    ∙ take-append-add (take n xs) (ys ++ post_of n k xs) m
    ∙ ap (λ l. take n xs ++ l) (take-append-le m ys (post_of n k xs) q)

pub loop-n-preserved : goal.loop-n-preserved
loop-n-preserved g c =
    let n = c.loop-n.n in
    let all = take_both n (length c.loop-n.buffer - n) c.in_ok-more.more c.loop-n.buffer c.read.new.buf c.loop-n.invariant.1 c.in_ok-more.ensures.bound.0 in
    (search rules, search rules, subst (Consumes _ _) (sym all) (Consumes-trans _ _ _ _ _ c.loop-n.invariant.2 c.in_ok-more.ensures.bytes.0))
