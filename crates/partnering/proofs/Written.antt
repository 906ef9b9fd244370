-- Lists as they are written: which record stands where, and what is read from it. The premise is that the lists lie one after the other; nothing else is assumed.
use mathlib.Core.Path.{◌≡◌, sym, ap, ◌∙◌}
use mathlib.Core.List.{List, [], ◌++◌, append-nil}
use Prim.Native.Nat.{ℕ, zero, suc, ◌+◌, ◌-◌, ◌*◌, ◌<◌, ◌≤◌}
use native.Mathlib.Omega.{arith}
use native.Mathlib.Decide.{dec_lt}
use native.Mathlib.Numerals.{add-one}
use lib.ListN.{length, length-append}
use lib.Seq.{get_or-append-add}
use Rattle.laws.specs.Area.{num}
use Rattle.laws.specs.Joined.{joined}
use Rattle.laws.proofs.Joined.{joined-none, joined-grow, joined_at}
use Rattle.laws.proofs.Laid.{laid-size, laid-at}
use Rattle.little.specs.Little.{little_bytes}
use Rattle.little.proofs.Bytes.{length-bytes}
use Rattle.little.proofs.Roundtrip.{little-same, little-back}
use Rattle.affinity_lists.specs.Lists.{InList}
use Rattle.partner.specs.Partner.{whole_links, given_links, link_from, link_to, link_weight}
use Rattle.partner_write.specs.Write.{link_record, link_at, list_records, lists_bytes, ListsLie}

-- ---- one record

module _ (a b w : ℕ) where
  record-long : length (link_record a b w) ≡ 16
  record-long =
      length-append (little_bytes 4 a) (little_bytes 4 b ++ little_bytes 8 w)
      ∙ omega (arith, length-bytes 4 a, length-append (little_bytes 4 b) (little_bytes 8 w), length-bytes 4 b, length-bytes 8 w)

  -- the bytes behind the first four, and behind the first eight
  past-four : (j : ℕ) → num (link_record a b w) (4 + j) ≡ num (little_bytes 4 b ++ little_bytes 8 w) (0 + j)
  past-four j =
      ap (λ (x : ℕ). num (link_record a b w) (x + j)) (sym (length-bytes 4 a))
      ∙ get_or-append-add (little_bytes 4 a) (little_bytes 4 b ++ little_bytes 8 w) j 0
      ∙ ap (num (little_bytes 4 b ++ little_bytes 8 w)) (zero-plus j)
    where
      zero-plus : (j : ℕ) → j ≡ 0 + j
      zero-plus j = omega arith

  past-eight : (j : ℕ) → num (link_record a b w) (8 + j) ≡ num (little_bytes 8 w ++ []) (0 + j)
  past-eight j =
      ap (num (link_record a b w)) (twice-four j)
      ∙ past-four (4 + j)
      ∙ ap (num (little_bytes 4 b ++ little_bytes 8 w)) (after-four j)
      ∙ get_or-append-add (little_bytes 4 b) (little_bytes 8 w) j 0
      ∙ ap (λ (x : List ℕ). num x j) (sym (append-nil (little_bytes 8 w)))
      ∙ ap (num (little_bytes 8 w ++ [])) (zero-plus j)
    where
      zero-plus : (j : ℕ) → j ≡ 0 + j
      zero-plus j = omega arith

      twice-four : (j : ℕ) → 8 + j ≡ 4 + (4 + j)
      twice-four j = omega arith

      after-four : (j : ℕ) → 0 + (4 + j) ≡ length (little_bytes 4 b) + j
      after-four j = omega (arith, length-bytes 4 b)

-- ---- all records

module _ (n : ℕ) (W I O : List ℕ) (lie : ListsLie n W I O) where
  abbrev B : List ℕ
  B = lists_bytes n W I O

  abbrev span : ℕ → ℕ
  span i = num O (i + 1) - num O i

  list-long : (i : ℕ) → length (list_records W I O i) ≡ span i * 16
  unfolding list_records
  list-long i = laid-size 16 (link_at W I i (num O i)) (span i) (λ t l. record-long i (num I (num O i + t)) (num W (num O i + t)))

  before-long : (i : ℕ) → i ≤ n → length (joined (list_records W I O) i) ≡ 16 * num O i
  before-long zero h = ap length (joined-none (list_records W I O)) ∙ omega (arith, lie.offsets-begin)
  before-long (suc i) h =
      ap (λ (x : ℕ). length (joined (list_records W I O) x)) (sym (add-one i))
      ∙ joined-grow (list_records W I O) i
      ∙ omega (arith, before-long i (omega arith), list-long i, lie.offsets-rise i (omega arith), ap (num O) (add-one i))

  pub lists-long : length B ≡ 16 * num O n
  unfolding lists_bytes
  lists-long = before-long n (omega arith)

  pub lists-whole : whole_links B ≡ num O n
  lists-whole = omega (arith, lists-long)

  pub lists-given : given_links B ≡ num O n
  lists-given = omega (arith, lists-long)

  -- ---- record p, which is link p - num O i of frame i

  module _ (i p : ℕ) (h : i < n) (in_p : InList O i p) where
    abbrev t : ℕ
    t = p - num O i

    place : num O i + t ≡ p
    place = omega (arith, in_p)

    byte_at : (j : ℕ) → j < 16 → num B (16 * p + j) ≡ num (link_record i (num I p) (num W p)) j
    unfolding lists_bytes list_records
    byte_at j l =
        ap (num B) where-it-is
        ∙ ap (λ (x : List ℕ). num x (length (joined (list_records W I O) i) + (t * 16 + j))) (sym (append-nil B))
        ∙ joined_at (list_records W I O) n i (t * 16 + j) [] 0 h inside
        ∙ ap (λ (x : List ℕ). num x (t * 16 + j)) (sym (append-nil (list_records W I O i)))
        ∙ laid-at 16 (link_at W I i (num O i)) (span i) t j [] 0 (λ u v. record-long i (num I (num O i + u)) (num W (num O i + u))) (omega (arith, in_p)) l
        ∙ ap (λ (x : ℕ). num (link_record i (num I x) (num W x)) j) place
      where
        where-it-is : 16 * p + j ≡ length (joined (list_records W I O) i) + (t * 16 + j)
        where-it-is = omega (arith, before-long i (omega arith), in_p)

        inside : t * 16 + j < length (list_records W I O i)
        inside = omega (arith, list-long i, in_p)

    moved-byte : (a j : ℕ) → a + j < 16 → num B (16 * p + a + j) ≡ num (link_record i (num I p) (num W p)) (a + j)
    moved-byte a j l = ap (num B) (same a j) ∙ byte_at (a + j) l
      where
        same : (a j : ℕ) → 16 * p + a + j ≡ 16 * p + (a + j)
        same a j = omega arith

    pub from-written : i < 4294967296 → link_from B p ≡ i
    from-written w =
        little-same 4 B (link_record i (num I p) (num W p)) (16 * p) 0 (λ j l. byte_at j (omega arith) ∙ ap (num (link_record i (num I p) (num W p))) (zero-plus j))
        ∙ little-back 4 i (little_bytes 4 (num I p) ++ little_bytes 8 (num W p)) w
      where
        zero-plus : (j : ℕ) → j ≡ 0 + j
        zero-plus j = omega arith

    pub to-written : num I p < 4294967296 → link_to B p ≡ num I p
    to-written w =
        little-same 4 B (little_bytes 4 (num I p) ++ little_bytes 8 (num W p)) (16 * p + 4) 0 (λ j l. moved-byte 4 j (omega arith) ∙ past-four i (num I p) (num W p) j)
        ∙ little-back 4 (num I p) (little_bytes 8 (num W p)) w

    pub weight-written : num W p < 18446744073709551616 → link_weight B p ≡ num W p
    weight-written w =
        little-same 8 B (little_bytes 8 (num W p) ++ []) (16 * p + 8) 0 (λ j l. moved-byte 8 j (omega arith) ∙ past-eight i (num I p) (num W p) j)
        ∙ little-back 8 (num W p) [] w

  -- ---- every place belongs to a list

  row_below : (m : ℕ) → m ≤ n → (p : ℕ) → p < num O m → (i : ℕ) × ((i < m) × InList O i p)
  row_below zero h p l = absurd (omega (arith, lie.offsets-begin))
  row_below (suc m) h p l = elim (dec_lt p (num O m)) [
    | yes q ↦ (let r = row_below m (omega arith) p q in (r.0, (omega (arith, r.1.0), r.1.1)))
    | no q ↦ (m, (omega arith, (omega arith, omega (arith, ap (num O) (add-one m)))))
  ]

  pub row-of : (p : ℕ) → p < num O n → (i : ℕ) × ((i < n) × InList O i p)
  row-of p l = row_below n (omega arith) p l

  -- a later list begins no earlier
  pub later-list : (d i : ℕ) → i + d ≤ n → num O i ≤ num O (i + d)
  later-list zero i h = omega (arith, ap (num O) (plus_none i))
    where
      plus_none : (i : ℕ) → i + 0 ≡ i
      plus_none i = omega arith
  later-list (suc d) i h = omega (arith, later-list d i (omega arith), lie.offsets-rise (i + d) (omega arith), ap (num O) (plus_one i d))
    where
      plus_one : (i d : ℕ) → i + d + 1 ≡ i + suc d
      plus_one i d = omega arith
