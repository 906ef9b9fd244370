-- `strip_profile::in_profile` meets its contract: the tests are those of the definition. Assumes nothing.
use mathlib.Core.Path.{refl, sym, ◌∙◌}
use mathlib.Core.Bool.{true≢false}
use borrow.Author.Tests.{eq-eqb, ne_eqb}
use Rattle.strip_profile.specs.Profile.{in_profile}
use Rattle.strip_profile.proofs.in_profile.Goals as goal
use Rattle.strip_profile.proofs.in_profile.Goals.{then-s-eq1, else-s-eq1, then-is_tree, else-is_tree}

pub returns-then-s : goal.returns-then-s
unfolding in_profile
returns-then-s c = elim c.if-is_tree.branch [
  | then-is_tree w ↦ elim c.if-s-eq1.branch [
    | then-s-eq1 u ↦ rw (eq-eqb c.args.s.c 1 u.if-s-eq1.true, sym u.is_tree.ensures ∙ sym u.value-is ∙ w.if-is_tree.true, sym w.value-is ∙ c.if-s.true) refl
    | else-s-eq1 u ↦ absurd (true≢false (sym w.if-is_tree.true ∙ u.value-is ∙ ne_eqb c.args.s.c 1 u.if-s-eq1.false))
  ]
  | else-is_tree w ↦ absurd (true≢false (sym c.if-s.true ∙ w.value-is ∙ w.if-is_tree.false))
]

pub returns-else-s : goal.returns-else-s
unfolding in_profile
returns-else-s c = elim c.if-is_tree.branch [
  | then-is_tree w ↦ elim c.if-s-eq1.branch [
    | then-s-eq1 u ↦ rw (eq-eqb c.args.s.c 1 u.if-s-eq1.true, sym u.is_tree.ensures ∙ sym u.value-is ∙ w.if-is_tree.true, sym w.value-is ∙ c.if-s.false) c.if-s.false
    | else-s-eq1 u ↦ absurd (true≢false (sym w.if-is_tree.true ∙ u.value-is ∙ ne_eqb c.args.s.c 1 u.if-s-eq1.false))
  ]
  | else-is_tree w ↦ elim c.if-s-eq1.branch [
    | then-s-eq1 u ↦ rw (eq-eqb c.args.s.c 1 u.if-s-eq1.true, sym u.is_tree.ensures ∙ sym u.value-is ∙ w.if-is_tree.false) c.if-s.false
    | else-s-eq1 u ↦ rw (ne_eqb c.args.s.c 1 u.if-s-eq1.false) c.if-s.false
  ]
]
