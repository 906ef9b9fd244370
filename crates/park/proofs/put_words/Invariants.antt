-- `park::put_words` meets its contract: the loop keeps `Lays`; by `length-bytes`, `words-next`, `lays-start`, `lays-done`.
use Rattle.park.proofs.Laws.{word_bytes}
use Rattle.parked.specs.Parked.{stored_of}
use Rattle.laws.proofs.Laid.{Lays}
use Prim.Native.Nat.{◌-◌}
use Rattle.park.proofs.put_words.Given as goal

abbrev pub invariant-loop-w : goal.invariant-loop-w
invariant-loop-w l = Lays 8
    (word_bytes l.l (stored_of l.words l.positions l.increments l.gains l.affinities l.indices l.offsets)) l.l.end l.initial.target l.w l.target
