use Rattle.std.proofs.Common.{sym, ◌∙◌}
use Rattle.std.proofs.lemmas.Bool.{eqb-true, eqb-false}
use Rattle.std.proofs.Math.Logic.{inl, inr}
use Rattle.scope_tree.specs.Nav.{walking_missing, walking_private, walking_turn, walking_end}
use Rattle.scope_tree.proofs.look.View.navigate.Goals as goal
use Rattle.scope_tree.proofs.look.View.navigate.Goals.{else-not-is_public-via-then-not-is_public+else-not-led, else-not-is_public-via-else-not-is_public}

pub returns-in_default : goal.returns-in_default
returns-in_default c =
    walking_missing _ _ _ _ _ _ _ _ _ _ _ _ _ _ _ _ _ c.loop-i.invariant c.loop-i-test.true c.name_at-name.ensures c.find.ensures.found c.in_default.is

pub returns-then-not-led : goal.returns-then-not-led
returns-then-not-led c =
    walking_private _ _ _ _ _ _ _ _ _ _ _ _ _ _ _ _ _ c.loop-i.invariant c.loop-i-test.true c.name_at-name.ensures (sym c.in-Some.is ∙ c.find.ensures.found) (eqb-false _ _ (sym c.is_public.ensures ∙ c.if-not-is_public.true)) c.if-not-led.true

pub loop-i-preserved : goal.loop-i-preserved
loop-i-preserved c =
    walking_turn _ _ _ _ _ _ _ _ _ _ _ _ _ _ _ _ _ c.loop-i.invariant c.loop-i-test.true c.name_at-name.ensures (sym c.in-Some.is ∙ c.find.ensures.found) c.requires.sound.0
    (elim c.else-not-is_public.branch [ else-not-is_public-via-then-not-is_public+else-not-led w ↦ inr w.if-not-led.false | else-not-is_public-via-else-not-is_public w ↦ inl (eqb-true _ _ (sym c.is_public.ensures ∙ w.if-not-is_public.false)) ])
    c.inside-to.ensures.shown c.leads-led.ensures c.next-p.ensures

pub returns : goal.returns
returns c = walking_end _ _ _ _ _ _ _ _ _ _ _ _ _ _ _ _ _ c.loop-i.invariant c.loop-i-test.false
