-- Lists as preparation leaves them, ready for a partner. Definitions only.
use Rattle.std.specs.Prelude.{◌≡◌, List, true, ℕ, ◌<◌, ◌≤◌}
use Rattle.laws.specs.Area.{num, bits}
use Rattle.run_record.specs.Record.{positive}
use Rattle.affinity_lists.specs.Lists.{InList}
use Rattle.partner_write.specs.Write.{ListsLie}

-- the lists of n frames, of at most so many links: W are the weights by their bits, I the frames that links name, O the offsets
pub record OwnLists (n most : ℕ) (W I O : List ℕ) : Type 0 where
  pub lie : ListsLie n W I O
  pub few : num O n ≤ most
  pub named : (p : ℕ) → p < num O n → num I p < n
  pub other : (i p : ℕ) → i < n → InList O i p → num I p ≡ i → ⊥
  pub rises : (i p r : ℕ) → i < n → InList O i p → InList O i r → p < r → num I p < num I r
  pub mirror : (i p : ℕ) → i < n → InList O i p → (r : ℕ) × (InList O (num I p) r × (num I r ≡ i) × (num W r ≡ num W p))
  pub in_words : (p : ℕ) → p < num O n → num W p < 18446744073709551616
  pub weighty : (p : ℕ) → p < num O n → positive (bits (num W p)) ≡ true
