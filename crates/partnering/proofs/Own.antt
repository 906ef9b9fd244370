-- Our own lists, written, meet the rules; and loading what was written gives the same lists. The premise is that the lists are as preparation leaves them; nothing else is assumed.
use mathlib.Core.Path.{◌≡◌, sym, ap, subst, ◌∙◌}
use mathlib.Core.List.{List, ◌++◌}
use mathlib.Core.Logic.{inl, inr}
use mathlib.Core.Bool.{true}
use Prim.Native.Nat.{ℕ, ◌+◌, ◌-◌, ◌<◌, ◌≤◌}
use native.Mathlib.Omega.{arith}
use native.Mathlib.Decide.{dec_lt}
use lib.ListN.{length, drop}
use Rattle.laws.specs.Area.{num, bits}
use Rattle.laws.specs.Joined.{each, pasted}
use Rattle.laws.proofs.Laid.{singles-taken}
use Rattle.run_record.specs.Record.{positive}
use Rattle.affinity_lists.specs.Lists.{InList}
use Rattle.partner.specs.Partner.{whole_links, link_from, link_to, link_weight, is_partner}
use Rattle.partner.specs.Rules.{PairBefore, Mirrors, PartnerRules}
use Rattle.partner.proofs.Accepted.{rules-accepted, accepted-frames}
use Rattle.partner_load.specs.Loaded.{indices_loaded, weights_loaded, links_below, offsets_loaded, FramesRise}
use Rattle.partner_load.proofs.Counted.{ListsBegin, lists-counted}
use Rattle.partner_write.specs.Write.{lists_bytes}
use Rattle.partnering.specs.Own.{OwnLists}
use Rattle.partnering.proofs.Written.{lists-long, lists-whole, from-written, to-written, weight-written, row-of, later-list}

module _ (n most : ℕ) (W I O : List ℕ) (own : OwnLists n most W I O) (w : n ≤ 4294967296) where
  abbrev B : List ℕ
  B = lists_bytes n W I O

  abbrev links : ℕ
  links = num O n

  whole : whole_links B ≡ links
  whole = lists-whole n W I O own.lie

  in-links : (p : ℕ) → p < whole_links B → p < links
  in-links p l = omega (arith, whole)

  -- ---- what record p says, where frame i has link p

  module _ (i p : ℕ) (h : i < n) (in_p : InList O i p) where
    below_last : p < links
    below_last = omega (arith, in_p, later-list n W I O own.lie (n - (i + 1)) (i + 1) (omega arith), ap (num O) (to_end i h))
      where
        to_end : (i : ℕ) → i < n → i + 1 + (n - (i + 1)) ≡ n
        to_end i h = omega arith

    own-from : link_from B p ≡ i
    own-from = from-written n W I O own.lie i p h in_p (omega arith)

    own-to : link_to B p ≡ num I p
    own-to = to-written n W I O own.lie i p h in_p (omega (arith, own.named p below_last))

    own-weight : link_weight B p ≡ num W p
    own-weight = weight-written n W I O own.lie i p h in_p (own.in_words p below_last)

  -- the frame whose link p is
  abbrev row_at : (p : ℕ) → p < whole_links B → ℕ
  row_at p l = (row-of n W I O own.lie p (in-links p l)).0

  module _ (p : ℕ) (l : p < whole_links B) where
    abbrev i : ℕ
    i = row_at p l

    row_in : i < n
    row_in = (row-of n W I O own.lie p (in-links p l)).1.0

    row-holds : InList O i p
    row-holds = (row-of n W I O own.lie p (in-links p l)).1.1

    from_is : link_from B p ≡ i
    from_is = own-from i p row_in row-holds

    to_is : link_to B p ≡ num I p
    to_is = own-to i p row_in row-holds

    weight_is : link_weight B p ≡ num W p
    weight_is = own-weight i p row_in row-holds

    mirror-is : (j : ℕ) × Mirrors B p j
    mirror-is =
        let m = own.mirror i p row_in row-holds in
        let r = m.0 in
        let named = own.named p (in-links p l) in (
          r,
          record {
            there = omega (arith, whole, below_last (num I p) r named m.1.0);
            turned-from = own-from (num I p) r named m.1.0 ∙ sym to_is;
            turned-to = own-to (num I p) r named m.1.0 ∙ m.1.1 ∙ sym from_is;
            same-weight = own-weight (num I p) r named m.1.0 ∙ m.1.2 ∙ sym weight_is;
          },
        )

  -- a place further on belongs to the same list or to a later one
  no-earlier : (i j p q : ℕ) → i < n → j < n → InList O i p → InList O j q → p < q → i ≤ j
  no-earlier i j p q h m a b l = elim (dec_lt j i) [
    | yes e ↦ absurd (omega (arith, a, b, later-list n W I O own.lie (i - (j + 1)) (j + 1) (omega arith), ap (num O) (reached i j e)))
    | no e ↦ omega arith
  ]
    where
      reached : (i j : ℕ) → j < i → j + 1 + (i - (j + 1)) ≡ i
      reached i j e = omega arith

  before-is : (p q : ℕ) → p < q → (l : q < whole_links B) → PairBefore B p q
  before-is p q h l =
      let k : p < whole_links B = omega arith in
      let a = row_at p k in
      let b = row_at q l in
      let o = no-earlier a b p q (row_in p k) (row_in q l) (row-holds p k) (row-holds q l) h in
      elim (dec_lt a b) [
        | yes e ↦ inl (omega (arith, from_is p k, from_is q l))
        | no e ↦ (let same : a ≡ b = omega arith in
            inr (from_is p k ∙ same ∙ sym (from_is q l), omega (arith, to_is p k, to_is q l, own.rises b p q (row_in q l) (subst (λ (x : ℕ). InList O x p) same (row-holds p k)) (row-holds q l) h)))
      ]

  -- ---- THE WRITTEN LISTS MEET THE RULES
  own-rules : PartnerRules n most B
  own-rules = record {
    no-tail = omega (arith, lists-long n W I O own.lie);
    few = omega (arith, whole, own.few);
    from-below = λ p l. omega (arith, from_is p l, row_in p l);
    to_below = λ p l. omega (arith, to_is p l, own.named p (in-links p l));
    rising = λ p q h l. before-is p q h l;
    no_self = λ p l e. own.other (row_at p l) p (row_in p l) (row-holds p l) (sym (to_is p l) ∙ sym e ∙ from_is p l);
    weighty = λ p l. subst (λ (x : ℕ). positive (bits x) ≡ true) (sym (weight_is p l)) (own.weighty p (in-links p l));
    mirror = λ p l. mirror-is p l;
  }

  pub own-lists-accepted : is_partner n most B ≡ true
  own-lists-accepted = rules-accepted n most B own-rules w

  -- ---- LOADING THEM GIVES THEM AGAIN: each area is the lists', then what stood there

  taken-front : (g : ℕ → ℕ) (m : ℕ) (v x : List ℕ) → m ≤ length x → ((j : ℕ) → j < m → num x j ≡ g j) → each g m ++ drop m v ≡ pasted x 0 m v
  taken-front g m v x h e = ap (λ (y : List ℕ). y ++ drop m v) (sym (singles-taken x 0 g 0 m (omega arith) (λ j l. ap (num x) (zero-plus j) ∙ e j l)))
    where
      zero-plus : (j : ℕ) → 0 + j ≡ j
      zero-plus j = omega arith

  pub own-indices-again : (v : List ℕ) → indices_loaded B v ≡ pasted I 0 (num O n) v
  unfolding indices_loaded
  own-indices-again v = rw whole (taken-front (link_to B) links v I own.lie.indices-long (λ p l. sym (to_is p (omega (arith, whole)))))

  pub own-weights-again : (v : List ℕ) → weights_loaded B v ≡ pasted W 0 (num O n) v
  unfolding weights_loaded
  own-weights-again v = rw whole (taken-front (link_weight B) links v W own.lie.weights-long (λ p l. sym (weight_is p (omega (arith, whole)))))

  -- the links before list j are those that start at frames below j
  counted_is : (j : ℕ) → j ≤ n → links_below B j ≡ num O j
  counted_is j h = lists-counted frames begins ends
    where
      frames : FramesRise B
      frames = record { no_lower = accepted-frames n most B own-lists-accepted w }

      reached : (i j : ℕ) → j ≤ i → j + (i - j) ≡ i
      reached i j e = omega arith

      short : num O j ≤ links
      short = omega (arith, later-list n W I O own.lie (n - j) j (omega arith), ap (num O) (reached n j h))

      lower : (t : ℕ) → t < num O j → link_from B t < j
      lower t l =
          let k : t < whole_links B = omega (arith, whole, short) in
          elim (dec_lt (row_at t k) j) [
            | yes e ↦ omega (arith, from_is t k)
            | no e ↦ absurd (omega (arith, row-holds t k, row_in t k, later-list n W I O own.lie (row_at t k - j) j (omega (arith, row_in t k)), ap (num O) (reached (row_at t k) j (omega arith))))
          ]

      begins : ListsBegin B (num O j) j
      begins = record { within = omega (arith, whole, short); below = lower }

      ends : num O j < whole_links B → j ≤ link_from B (num O j)
      ends l = elim (dec_lt (row_at (num O j) l) j) [
        | yes e ↦ absurd (omega (
          arith,
          row-holds (num O j) l,
          later-list n W I O own.lie (j - (row_at (num O j) l + 1)) (row_at (num O j) l + 1)
              (omega (arith, h)),
          ap (num O) (reached j (row_at (num O j) l + 1) (omega arith)),
        ))
        | no e ↦ omega (arith, from_is (num O j) l)
      ]

  pub own-offsets-again : (v : List ℕ) → offsets_loaded B n v ≡ pasted O 0 (n + 1) v
  unfolding offsets_loaded
  own-offsets-again v = taken-front (links_below B) (n + 1) v O (omega (arith, own.lie.offsets-long)) (λ j l. sym (counted_is j (omega arith)))
