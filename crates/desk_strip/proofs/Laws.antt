-- What the call that hands out cites: what its test has shown, and what it tells in each case. Assumes nothing.
use mathlib.Core.Path.{◌≡◌, ap, ◌∙◌}
use mathlib.Core.List.{List}
use Prim.Native.Nat.{ℕ}
use lib.ListN.{length, set}
use borrow.Author.Tests.{eq-eqb, ne_eqb}
use Rattle.run_entry.specs.State.{Memory}
use Rattle.record_words.specs.RecordWords.{Worded, worded}
use Rattle.hand_out.specs.HandOut.{Handed, Handing, handing, handed_out, hand_number}
use Rattle.desk_strip.specs.HostStrip.{hand_told, host_handed, handing_told, host_strip}

module _ (w : List ℕ) (m : Memory) (o g a : List ℕ) where
  pub mute-strip-said : length a ≡ 0 → host_handed 12 o g a ≡ host_strip w m o g a
  unfolding host_strip
  mute-strip-said y = rw (eq-eqb (length a) 0 y)

  pub strip-said : (length a ≡ 0 → ⊥) → (h : Handed) (o' g' : List ℕ) → handing h o' g' ≡ handed_out w m o g → (k : ℕ) (a' : List ℕ) →
      worded k a' ≡ worded (hand_number h) (set a 0 (hand_told h)) → host_handed k o' g' a' ≡ host_strip w m o g a
  unfolding host_strip
  strip-said y h o' g' eh k a' e = rw (ne_eqb (length a) 0 y) (ap (λ (x : Worded). host_handed x.number o' g' x.words) e ∙ ap (λ (q : Handing). handing_told q a) eh)
