-- A record by itself: one that links a frame with itself is refused, and where the other rules hold, the weight's decides. Assumes nothing.
use mathlib.Core.Path.{◌≡◌}
use mathlib.Core.List.{List}
use mathlib.Core.Bool.{Bool, true, false, ◌&&◌, ◌||◌}
use Prim.Native.Nat.{ℕ, ◌-◌, ◌<◌}
use lib.Dec.{eqb, ltb}
use borrow.Author.Tests.{eq-eqb, ne_eqb, lt-ltb}
use Rattle.laws.specs.Area.{bits}
use Rattle.laws.proofs.Bools.{and_no}
use Rattle.run_record.specs.Record.{positive}
use Rattle.partner.specs.Partner.{link_from, link_to, link_weight, link_pair, link_fine}

module _ (n most : ℕ) (f : List ℕ) (i : ℕ) where
  abbrev pub is_raised : Bool
  is_raised = eqb i 0 || ltb (link_pair f (i - 1)) (link_pair f i)

  pub fine-same : link_from f i ≡ link_to f i → link_fine n most f i ≡ false
  unfolding link_fine
  fine-same h = rw (eq-eqb (link_from f i) (link_to f i) h, and_no (ltb i most && (ltb (link_from f i) n && ltb (link_to f i) n) && is_raised))

  pub fine-rest : i < most → link_from f i < n → link_to f i < n → is_raised ≡ true → (link_from f i ≡ link_to f i → ⊥) → link_fine n most f i ≡ positive (bits (link_weight f i))
  unfolding link_fine
  fine-rest a b c d e = rw (lt-ltb i most a, lt-ltb (link_from f i) n b, lt-ltb (link_to f i) n c, d, ne_eqb (link_from f i) (link_to f i) e)
