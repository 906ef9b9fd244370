-- What the call that reads a parked run leaves is what the definition names. Assumes nothing.
use mathlib.Core.Path.{◌≡◌, ap, ◌∙◌}
use mathlib.Core.List.{List}
use Prim.Native.Nat.{ℕ}
use lib.ListN.{length, set}
use lib.Ieee.{Float}
use borrow.Author.Tests.{eq-eqb, ne_eqb}
use Rattle.record_words.specs.RecordWords.{Worded, worded}
use Rattle.parked.specs.Parked.{Stored}
use Rattle.std.specs.Prelude.{Result}
use Rattle.refusal.specs.declared.Unreadable.{Unreadable}
use Rattle.unpark.specs.Unpark.{Unparking, unparking, unpark_of, unpark_number}
use Rattle.desk_unpark.specs.HostUnpark.{unparked_told, host_unparked, unparking_told, host_unpark}

module _ (file : List ℕ) (d : Stored) (F : List Float) (nodes : ℕ) (a : List ℕ) where
  pub mute-left : length a ≡ 0 → host_unparked 12 d F a ≡ host_unpark file d F nodes a
  unfolding host_unpark
  mute-left e = rw (eq-eqb (length a) 0 e)

  pub unparked-left : (length a ≡ 0 → ⊥) → (u : Result ℕ Unreadable) (d' : Stored) (F' : List Float) → unparking u d' F' ≡ unpark_of file d F nodes →
      (k : ℕ) (a' : List ℕ) → worded k a' ≡ worded (unpark_number u) (set a 0 (unparked_told u)) → host_unparked k d' F' a' ≡ host_unpark file d F nodes a
  unfolding host_unpark
  unparked-left h u d' F' eu k a' e = rw (ne_eqb (length a) 0 h) (ap (λ (w : Worded). host_unparked w.number d' F' w.words) e ∙ ap (λ (q : Unparking). unparking_told q a) eu)
