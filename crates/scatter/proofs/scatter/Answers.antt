-- `scatter::scatter` meets its contract: each refusal by its tests, the rest by `random_init`. Assumes nothing.
use Rattle.std.proofs.Common.{le-ltb, lt-ltb, eq-eqb, ne_eqb}
use Rattle.scatter.specs.Scatter.{scatter_of}
use Rattle.scatter.proofs.scatter.Goals as goal
use Rattle.scatter.proofs.scatter.Goals.{then-c-eq0-via-then-c-eq0, then-c-eq0-via-else-c-eq0+then-c-gt-MOST_COMPONENTS, then-n-eq0-via-then-n-eq0, then-n-eq0-via-else-n-eq0+then-n-gt-MOST_FRAMES}

pub returns-then-c-eq0 : goal.returns-then-c-eq0
unfolding scatter_of
returns-then-c-eq0 c = elim c.then-c-eq0.branch [
  | then-c-eq0-via-then-c-eq0 w ↦ simp (eq-eqb _ _ w.if-c-eq0.true)
  | then-c-eq0-via-else-c-eq0+then-c-gt-MOST_COMPONENTS w ↦ simp (ne_eqb _ _ w.if-c-eq0.false, lt-ltb _ _ w.if-c-gt-MOST_COMPONENTS.true)
]

pub returns-then-n-eq0 : goal.returns-then-n-eq0
unfolding scatter_of
returns-then-n-eq0 c = elim c.then-n-eq0.branch [
  | then-n-eq0-via-then-n-eq0 w ↦
      simp (ne_eqb _ _ c.if-c-eq0.false, le-ltb _ _ c.if-c-gt-MOST_COMPONENTS.false, eq-eqb _ _ w.if-n-eq0.true)
  | then-n-eq0-via-else-n-eq0+then-n-gt-MOST_FRAMES w ↦
      simp (ne_eqb _ _ c.if-c-eq0.false, le-ltb _ _ c.if-c-gt-MOST_COMPONENTS.false, ne_eqb _ _ w.if-n-eq0.false, lt-ltb _ _ w.if-n-gt-MOST_FRAMES.true)
]

pub returns-then-positions-m : goal.returns-then-positions-m
unfolding scatter_of
returns-then-positions-m c =
    simp (ne_eqb _ _ c.if-c-eq0.false, le-ltb _ _ c.if-c-gt-MOST_COMPONENTS.false, ne_eqb _ _ c.if-n-eq0.false, le-ltb _ _ c.if-n-gt-MOST_FRAMES.false, lt-ltb _ _ c.if-positions-m.true)

pub returns : goal.returns
unfolding scatter_of
returns c =
    simp (ne_eqb _ _ c.if-c-eq0.false, le-ltb _ _ c.if-c-gt-MOST_COMPONENTS.false, ne_eqb _ _ c.if-n-eq0.false, le-ltb _ _ c.if-n-gt-MOST_FRAMES.false, le-ltb _ _ c.if-positions-m.false)
    (rw c.random_init.ensures)
