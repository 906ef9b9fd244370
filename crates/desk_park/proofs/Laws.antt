-- What the parking call cites: what its test has shown, and what it tells in each case. Assumes nothing.
use Rattle.std.specs.Prelude.{Result}
use mathlib.Core.Path.{◌≡◌, sym, ap, ◌∙◌}
use mathlib.Core.List.{List}
use mathlib.Core.Bool.{Bool, false}
use Prim.Native.Nat.{ℕ, ◌≤◌}
use native.Mathlib.Omega.{arith}
use lib.Dec.{eqb}
use lib.ListN.{length, set}
use borrow.Author.Tests.{eqb-false, eq-eqb, ne_eqb}
use Rattle.tree_node.specs.declared.Node.{Node}
use Rattle.record_words.specs.RecordWords.{Worded, worded}
use Rattle.parked.specs.Parked.{Stored}
use Rattle.park.specs.declared.ParkFault.{ParkFault}
use Rattle.park.specs.Park.{Parking, parking, park_of, park_number}
use Rattle.desk_park.specs.HostPark.{parked_told, host_parked, parking_told, host_park}

module _ (d : Stored) (forces : ℕ) (ns : List Node) (t a : List ℕ) where
  pub mute-said : length a ≡ 0 → host_parked 12 t a ≡ host_park d forces ns t a
  unfolding host_park
  mute-said e = rw (eq-eqb (length a) 0 e)

  pub parked-room : (b : Bool) → b ≡ eqb (length a) 0 → b ≡ false → 1 ≤ length a
  parked-room b q y = let n = eqb-false (length a) 0 (sym q ∙ y) in omega (arith, n)

  pub parked-said : (length a ≡ 0 → ⊥) → (p : Result ℕ ParkFault) (t' : List ℕ) → parking p t' ≡ park_of d forces ns t → (k : ℕ) (a' : List ℕ) →
      worded k a' ≡ worded (park_number p) (set a 0 (parked_told p)) → host_parked k t' a' ≡ host_park d forces ns t a
  unfolding host_park
  parked-said h p t' ep k a' e = rw (ne_eqb (length a) 0 h) (ap (λ (w : Worded). host_parked w.number t' w.words) e ∙ ap (λ (x : Parking). parking_told x a) ep)
