-- The six bytes of the definition, and no other.
use mathlib.Core.Path.{refl, sym}
use mathlib.Core.Bool.{not}
use mathlib.Core.Logic.{inl, inr}
use mathlib.Core.List.{[], ◌∷◌}
use borrow.Author.Tests.{ne_eqb, not-false}
use Rattle.counts.proofs.Keys.{no_key}
use Rattle.literal_grammar.specs.Bytes.{is_escape}
use Rattle.literal_escapes.proofs.is_escape.Goals as goal

pub returns-in-92 : goal.returns-in-92
unfolding is_escape
returns-in-92 c = sym (not-false (is_escape c.args.b) (sym (no_key (λ k. not (is_escape k)) (34 ∷ 39 ∷ 92 ∷ 110 ∷ 114 ∷ 116 ∷ []) c.args.b c.in-92.is refl)))

pub returns-in_default : goal.returns-in_default
unfolding is_escape
returns-in_default c =
    let other = c.in_default.in_default-own.rest.1 in
    rw (is_escape, ne_eqb _ 92 (λ e. other (inr (inr (inl e)))), ne_eqb _ 39 (λ e. other (inr (inl e))), ne_eqb _ 34 (λ e. other (inl e)), ne_eqb _ 110 (λ e. other (inr (inr (inr (inl e))))), ne_eqb _ 114 (λ e. other (inr (inr (inr (inr (inl e)))))), ne_eqb _ 116 (λ e. other (inr (inr (inr (inr (inr e)))))))
