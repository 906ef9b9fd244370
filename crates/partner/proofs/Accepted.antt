-- A list is accepted exactly when the rules hold. The premise is that frames are numbered by 32 bits; nothing else is assumed.
use mathlib.Core.Path.{◌≡◌, refl, sym, ap, subst, ◌∙◌}
use mathlib.Core.List.{List}
use mathlib.Core.Logic.{inl, inr, ⊎_elim}
use mathlib.Core.Bool.{Bool, true, false, not, ◌&&◌, true≢false}
use Prim.Native.Nat.{ℕ, zero, suc, ◌+◌, ◌-◌, ◌<◌, ◌≤◌}
use native.Mathlib.Omega.{arith}
use native.Mathlib.Decide.{dec_lt}
use lib.Dec.{eqb, ltb}
use borrow.Author.Tests.{eq-eqb, ne_eqb, eqb-true, lt-ltb, ltb-true}
use Rattle.laws.specs.Area.{bits}
use Rattle.laws.specs.Loops.{first}
use Rattle.laws.proofs.First.{first-none, first-all}
use Rattle.laws.proofs.Bools.{and_left, and_right}
use Rattle.run_record.specs.Record.{positive}
use Rattle.partner.specs.Partner.{whole_links, given_links, link_from, link_to, link_weight, link_pair, link_fine, is_mirror, mirrored, partner_fine, first_bad_link, is_partner}
use Rattle.partner.specs.Rules.{PairBefore, Mirrors, PartnerRules}
use Rattle.partner.proofs.Fine.{is_raised, fine-rest}
use Rattle.partner.proofs.Mirrors.{met_at, met_some, mirror-weight}
use Rattle.partner.proofs.Judged.{rise_steps, raised-above}

not-no : {b : Bool} → not b ≡ false → b ≡ true
not-no {b = true} e = refl
not-no {b = false} e = absurd (true≢false e)

-- ---- what a record by itself says

pub record LinkFine (n most : ℕ) (f : List ℕ) (i : ℕ) : Type 0 where
  pub in-number : i < most
  pub from_in : link_from f i < n
  pub to_in : link_to f i < n
  pub raised : is_raised n most f i ≡ true
  pub other : link_from f i ≡ link_to f i → ⊥
  pub weight : positive (bits (link_weight f i)) ≡ true

module _ (n most : ℕ) (f : List ℕ) where
  pub link-told : (i : ℕ) → link_fine n most f i ≡ true → LinkFine n most f i
  unfolding link_fine
  link-told i e =
      let P = ltb i most in
      let Q = ltb (link_from f i) n in
      let R = ltb (link_to f i) n in
      let S = is_raised n most f i in
      let T = not (eqb (link_from f i) (link_to f i)) in
      let W = positive (bits (link_weight f i)) in
      let a = and_left (P && (Q && R) && S && T) W e in
      let b = and_left (P && (Q && R) && S) T a in
      let c = and_left (P && (Q && R)) S b in
      record {
        in-number = ltb-true i most (and_left P (Q && R) c);
        from_in = ltb-true (link_from f i) n (and_left Q R (and_right P (Q && R) c));
        to_in = ltb-true (link_to f i) n (and_right Q R (and_right P (Q && R) c));
        raised = and_right (P && (Q && R)) S b;
        other = λ q. true≢false (sym (and_right (P && (Q && R) && S) T a) ∙ ap not (eq-eqb (link_from f i) (link_to f i) q));
        weight = and_right (P && (Q && R) && S && T) W e;
      }

  -- ---- an accepted list

  module _ (ok : is_partner n most f ≡ true) where
    abbrev bad : ℕ → Bool
    bad i = not (partner_fine n most f i)

    none-bad : (i : ℕ) → i < given_links f → partner_fine n most f i ≡ true
    unfolding first_bad_link
    none-bad i l = not-no (first-all bad (given_links f) (omega (arith, eqb-true (first bad (given_links f)) (given_links f) ok)) i l)

    -- there is no stray tail
    pub accepted-whole : given_links f ≡ whole_links f
    unfolding partner_fine
    accepted-whole = elim (dec_lt (whole_links f) (given_links f)) [
      | yes l ↦ absurd (omega (
        arith,
        ltb-true (whole_links f) (whole_links f)
            (and_left (ltb (whole_links f) (whole_links f)) (link_fine n most f (whole_links f))
            (and_left (ltb (whole_links f) (whole_links f) && link_fine n most f (whole_links f)) (mirrored f (whole_links f)) (none-bad (whole_links f) l))),
      ))
      | no l ↦ omega arith
    ]

    module _ (i : ℕ) (l : i < whole_links f) where
      both-fine : partner_fine n most f i ≡ true
      both-fine = none-bad i (omega (arith, accepted-whole))

      pub accepted-link : LinkFine n most f i
      unfolding partner_fine
      accepted-link = link-told i (and_right (ltb i (whole_links f)) (link_fine n most f i) (and_left (ltb i (whole_links f) && link_fine n most f i) (mirrored f i) both-fine))

      accepted-mirrored : mirrored f i ≡ true
      unfolding partner_fine
      accepted-mirrored = and_right (ltb i (whole_links f) && link_fine n most f i) (mirrored f i) both-fine

      pub accepted-mirror : (j : ℕ) × Mirrors f i j
      unfolding is_mirror
      accepted-mirror =
          let m = met_at f i 0 (whole_links f) accepted-mirrored in
          let j = 0 + m.0 in
          let A = eqb (link_from f j) (link_to f i) in
          let B = eqb (link_to f j) (link_from f i) in
          let C = eqb (link_weight f j) (link_weight f i) in
          let b = and_left (A && B) C m.1.1 in (
            j,
            record {
              there = omega (arith, m.1.0);
              turned-from = eqb-true (link_from f j) (link_to f i) (and_left A B b);
              turned-to = eqb-true (link_to f j) (link_from f i) (and_right A B b);
              same-weight = eqb-true (link_weight f j) (link_weight f i) (and_right (A && B) C m.1.1);
            },
          )

    -- at most so many
    pub accepted-few : whole_links f ≤ most
    accepted-few = by (whole_links f) refl
      where
        by : (m : ℕ) → m ≡ whole_links f → whole_links f ≤ most
        by zero e = omega arith
        by (suc m) e = omega (arith, (accepted-link m (omega arith)).in-number)

    -- the pairs rise
    pub accepted-pairs : (i j : ℕ) → i < j → j < whole_links f → link_pair f i < link_pair f j
    accepted-pairs i j l m = omega (arith, (rise_steps f 0 (whole_links f) step).rises i j l m, ap (link_pair f) (same i), ap (link_pair f) (same j))
      where
        same : (x : ℕ) → 0 + x ≡ x
        same x = omega arith

        before : (t : ℕ) → t + 1 - 1 ≡ 0 + t
        before t = omega arith

        here : (t : ℕ) → t + 1 ≡ 0 + (t + 1)
        here t = omega arith

        step : (t : ℕ) → t + 1 < whole_links f → link_pair f (0 + t) < link_pair f (0 + (t + 1))
        step t l = omega (arith, raised-above f (t + 1) (accepted-link (t + 1) l).raised (omega arith), ap (link_pair f) (before t), ap (link_pair f) (here t))

    -- frame by frame, where all frames are numbers of 32 bits
    pub accepted-frames : n ≤ 4294967296 → (i j : ℕ) → i < j → j < whole_links f → link_from f i ≤ link_from f j
    accepted-frames w i j l m = omega (arith, accepted-pairs i j l m, (accepted-link j m).to_in)

    before-told : n ≤ 4294967296 → (i j : ℕ) → i < j → j < whole_links f → PairBefore f i j
    before-told w i j l m = elim (dec_lt (link_from f i) (link_from f j)) [
      | yes q ↦ inl q
      | no q ↦ inr (omega (arith, accepted-frames w i j l m), omega (arith, accepted-frames w i j l m, accepted-pairs i j l m))
    ]

    -- ---- ACCEPTED LISTS MEET THE RULES
    pub accepted-rules : n ≤ 4294967296 → PartnerRules n most f
    accepted-rules w = record {
      no-tail = omega (arith, accepted-whole);
      few = accepted-few;
      from-below = λ i l. (accepted-link i l).from_in;
      to_below = λ i l. (accepted-link i l).to_in;
      rising = before-told w;
      no_self = λ i l. (accepted-link i l).other;
      weighty = λ i l. (accepted-link i l).weight;
      mirror = accepted-mirror;
    }

  -- ---- LISTS THAT MEET THE RULES ARE ACCEPTED

  module _ (R : PartnerRules n most f) (w : n ≤ 4294967296) where
    rule-pairs : (i j : ℕ) → i < j → j < whole_links f → link_pair f i < link_pair f j
    rule-pairs i j l m = ⊎_elim (λ q. omega (arith, R.to_below i (omega arith))) (λ q. omega (arith, q.0, q.1)) (R.rising i j l m)

    rule-raised : (i : ℕ) → i < whole_links f → is_raised n most f i ≡ true
    rule-raised zero l = refl
    rule-raised (suc i) l = rw (ne_eqb (suc i) 0 (λ q. omega (arith, q))) (lt-ltb _ _ (rule-pairs (suc i - 1) (suc i) (omega arith) l))

    rule-mirrored : (i : ℕ) → i < whole_links f → mirrored f i ≡ true
    rule-mirrored i l =
        let j = (R.mirror i l).0 in
        let m = (R.mirror i l).1 in
        met_some f i 0 (whole_links f) j m.there (subst (λ (x : ℕ). is_mirror f i x ≡ true) (zero-plus j) (mirror-weight f i j m.turned-from m.turned-to ∙ eq-eqb _ _ m.same-weight))
      where
        zero-plus : (x : ℕ) → x ≡ 0 + x
        zero-plus x = omega arith

    rule-fine : (i : ℕ) → i < whole_links f → not (partner_fine n most f i) ≡ false
    unfolding partner_fine
    rule-fine i l =
        let a = fine-rest n most f i (omega (arith, R.few)) (R.from-below i l) (R.to_below i l) (rule-raised i l) (R.no_self i l) ∙ R.weighty i l in
        rw (lt-ltb i (whole_links f) l, a, rule-mirrored i l)

    no_more : given_links f ≡ whole_links f
    no_more = omega (arith, R.no-tail)

    pub rules-accepted : is_partner n most f ≡ true
    unfolding first_bad_link
    rules-accepted = eq-eqb _ _ (first-none (λ i. not (partner_fine n most f i)) (given_links f) (λ i l. rule-fine i (omega (arith, no_more))))
