-- `parked_fine::offset_fits` meets its contract: from what its calls promise.
use Rattle.parked.specs.Fine.{offset_fits}
use borrow.Author.Tests.{eq-eqb, ne_eqb, le-leb, lt-leb}
use Rattle.parked_fine.proofs.offset_fits.Goals as goal

pub returns-then-k-eq0 : goal.returns-then-k-eq0
unfolding offset_fits
returns-then-k-eq0 c =
    rw (c.word-v.ensures, eq-eqb _ _ c.if-k-eq0.true)

pub returns-then-v-word : goal.returns-then-v-word
unfolding offset_fits
returns-then-v-word c =
    rw ((ne_eqb _ _ c.if-k-eq0.false), lt-leb _ _ (rw (c.word-v.ensures, c.word.ensures) at c.if-v-word.true))

pub returns-then-l-v : goal.returns-then-l-v
unfolding offset_fits
returns-then-l-v c =
    rw (
      (ne_eqb _ _ c.if-k-eq0.false),
      (le-leb _ _ (rw (c.word-v.ensures, c.word.ensures) at c.if-v-word.false)),
      lt-leb _ _
          (rw c.word-v.ensures at c.if-l-v.true),
    )

pub returns-then-k-l : goal.returns-then-k-l
unfolding offset_fits
returns-then-k-l c =
    rw (
      (ne_eqb _ _ c.if-k-eq0.false),
      (le-leb _ _ (rw (c.word-v.ensures, c.word.ensures) at c.if-v-word.false)),
      (le-leb _ _ (rw c.word-v.ensures at c.if-l-v.false)),
      ne_eqb _ _ c.if-k-l.true,
    )

pub returns : goal.returns
unfolding offset_fits
returns c =
    rw (
      c.word-v.ensures,
      (ne_eqb _ _ c.if-k-eq0.false),
      (le-leb _ _ (rw (c.word-v.ensures, c.word.ensures) at c.if-v-word.false)),
      (le-leb _ _ (rw c.word-v.ensures at c.if-l-v.false)),
      eq-eqb _ _ c.if-k-l.false,
    )
