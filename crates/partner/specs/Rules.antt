-- What the desk asks of a partner's list, rule by rule: n frames, at most so many links. Definitions only.
use Rattle.std.specs.Prelude.{◌≡◌, List, ◌⊎◌, true, ℕ, ◌%◌, ◌<◌, ◌≤◌, length}
use Rattle.laws.specs.Area.{bits}
use Rattle.run_record.specs.Record.{positive}
use Rattle.partner.specs.Partner.{link_bytes, whole_links, link_from, link_to, link_weight}

-- record i stands before record j: by from, then by to
abbrev pub PairBefore : List ℕ → ℕ → ℕ → Type 0
PairBefore f i j = (link_from f i < link_from f j) ⊎ ((link_from f i ≡ link_from f j) × (link_to f i < link_to f j))

-- record j has from and to of record i exchanged, and the same weight bits
pub record Mirrors (f : List ℕ) (i j : ℕ) : Type 0 where
  pub there : j < whole_links f
  pub turned-from : link_from f j ≡ link_to f i
  pub turned-to : link_to f j ≡ link_from f i
  pub same-weight : link_weight f j ≡ link_weight f i

pub record PartnerRules (n most : ℕ) (f : List ℕ) : Type 0 where
  pub no-tail : length f % link_bytes ≡ 0
  pub few : whole_links f ≤ most
  pub from-below : (i : ℕ) → i < whole_links f → link_from f i < n
  pub to_below : (i : ℕ) → i < whole_links f → link_to f i < n
  pub rising : (i j : ℕ) → i < j → j < whole_links f → PairBefore f i j
  pub no_self : (i : ℕ) → i < whole_links f → link_from f i ≡ link_to f i → ⊥
  pub weighty : (i : ℕ) → i < whole_links f → positive (bits (link_weight f i)) ≡ true
  pub mirror : (i : ℕ) → i < whole_links f → (j : ℕ) × Mirrors f i j
