use Rattle.parked_file.proofs.Stands.{missing, words-stand, due-is, seeks-three}
use Rattle.parked_file.specs.File.{first_bad}
use Rattle.laws.proofs.First.{seek-next, seek_stop, seek-done}
use mathlib.Core.Bool.{not}
use mathlib.Core.Path.{◌≡◌, ap, ◌∙◌}
use Prim.Native.Nat.{◌/◌}
use native.Mathlib.Omega.{arith}
use Rattle.parked_file.proofs.records.first_bad.Goals as goal

pub loop-q-init : goal.loop-q-init
loop-q-init c =
    (omega arith, seeks-three _ c.requires.0)

pub returns-then-whole-q : goal.returns-then-whole-q
unfolding first_bad
returns-then-whole-q c =
    seek_stop c.loop-q.invariant.1 (omega (arith, (due-is _ _ c.requires.1))) (ap not (missing _ _ (omega arith)))

pub returns-then-not-words_fine : goal.returns-then-not-words_fine
unfolding first_bad
returns-then-not-words_fine c =
    seek_stop c.loop-q.invariant.1 (omega (arith, (due-is _ _ c.requires.1)))
    (ap not ((words-stand _ _ _ _ c.requires.1 c.loop-q.invariant.0 (omega arith) c.words_fine.ensures) ∙ c.if-not-words_fine.true))

pub loop-q-smaller : goal.loop-q-smaller
loop-q-smaller c =
    omega (arith, (due-is _ _ c.requires.1))

pub loop-q-preserved : goal.loop-q-preserved
loop-q-preserved c = (
  omega arith,
  seek-next c.loop-q.invariant.1 (omega (arith, (due-is _ _ c.requires.1)))
      (ap not ((words-stand _ _ _ _ c.requires.1 c.loop-q.invariant.0 (omega arith) c.words_fine.ensures) ∙ c.if-not-words_fine.false)),
)

pub returns : goal.returns
unfolding first_bad
returns c =
    let e : c.args.l.end / 4 ≡ c.loop-q.q = omega (arith, (due-is _ _ c.requires.1)) in
    e ∙ seek-done c.loop-q.invariant.1 (omega (arith, (due-is _ _ c.requires.1)))
