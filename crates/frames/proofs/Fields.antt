-- What the reader's order comes to in a file that it takes, and that files of before request 2026-03 are read as before. Assumes nothing.
use mathlib.Core.Path.{◌≡◌, refl, sym, ap, subst, ◌∙◌}
use mathlib.Core.Logic.{◌⊎◌, inl, inr, ⊎_elim}
use mathlib.Core.List.{List}
use mathlib.Core.Bool.{Bool, true, false, not, ◌&&◌, true≢false}
use Prim.Native.Nat.{ℕ, zero, suc, ◌+◌, ◌-◌, ◌*◌, ◌%◌, ◌<◌, ◌≤◌}
use native.Mathlib.Omega.{arith}
use native.Mathlib.Nat.{eq-or-lt_of_le, le_of_suc-le-suc, not-suc-le-zero}
use lib.Dec.{eqb, ltb, leb}
use lib.ListN.{length}
use borrow.Author.Tests.{lt-ltb, le-ltb, le-leb, eq-eqb, ne_eqb, ltb-true, ltb-false, leb-true, eqb-true, eqb-false, not-true, not-false}
use Rattle.laws.specs.Area.{num}
use Rattle.laws.specs.Loops.{first}
use Rattle.laws.proofs.Bools.{by_bool, and_left, and_right}
use Rattle.laws.proofs.First.{first-all, first-none}
use Rattle.std.specs.Prelude.{Result, Ok, Err}
use Rattle.frames.specs.declared.BadRecord.{BadRecord}
use Rattle.frames.specs.Frames.{record_bytes, picture_at, field_at, most_picture, picture_fine, side_fine, side_at, field_fine, spare_fine, values_fine, good_alone}
use Rattle.frames.specs.Frames.{bad_place, may_follow, in_order, bad_at, whole_records, frames_by, frames_of, frame_of}
use Rattle.frames.specs.BaseReader.{base_good_alone, base_in_order, base_bad_at, base_frames_of, base_frame_of}

-- ---- a file that is taken, by any test of its records

abbrev is_good : Result ℕ BadRecord → Bool
is_good (Ok n) = true
is_good (Err p) = false

abbrev count_of : Result ℕ BadRecord → ℕ
count_of (Ok n) = n
count_of (Err p) = p.place

pub record Taken (bad : ℕ → Bool) (f : List ℕ) (n : ℕ) : Type 0 where
  pub count : n ≡ whole_records f
  pub no_tail : length f % record_bytes ≡ 0
  pub good : (i : ℕ) → i < whole_records f → bad i ≡ false

module _ (bad : ℕ → Bool) (f : List ℕ) (n : ℕ) where
  abbrev first_bad : ℕ
  first_bad = first bad (whole_records f)

  pub taken_is : frames_by bad f ≡ Ok n → Taken bad f n
  taken_is e = go (ltb first_bad (whole_records f)) refl (eqb (length f % record_bytes) 0) refl
    where
      never : (p : ℕ) → frames_by bad f ≡ Err (bad_place p) → ⊥
      never p h = true≢false (ap is_good (sym e ∙ h))

      go : (a : Bool) → ltb first_bad (whole_records f) ≡ a → (b : Bool) → eqb (length f % record_bytes) 0 ≡ b → Taken bad f n
      go true p b q = absurd (never first_bad (rw p))
      go false p false q = absurd (never (whole_records f) (rw (p, q)))
      go false p true q = record {
        count = ap count_of (sym e ∙ frames_is p q);
        no_tail = eqb-true (length f % record_bytes) 0 q;
        good = first-all bad (whole_records f) (ltb-false first_bad (whole_records f) p);
      }
        where
          frames_is : ltb first_bad (whole_records f) ≡ false → eqb (length f % record_bytes) 0 ≡ true → frames_by bad f ≡ Ok (whole_records f)
          frames_is p q = rw (p, q)

  pub taken-so : Taken bad f n → frames_by bad f ≡ Ok n
  taken-so t = rw (first-none bad (whole_records f) t.good, le-ltb (whole_records f) (whole_records f) (omega arith), eq-eqb (length f % record_bytes) 0 t.no_tail, t.count)

-- ---- the order

-- what `may_follow` says
abbrev Follows : ℕ → ℕ → ℕ → ℕ → Type 0
Follows p e q g = (p < q) ⊎ ((p ≡ q) × (0 < e) × (e < g))

module _ (p e q g : ℕ) where
  follows : may_follow p e q g ≡ true → Follows p e q g
  unfolding may_follow
  follows h = by_bool (Follows p e q g) (ltb p q) (λ t. inl (ltb-true p q t)) (λ t. inr (later (rw t at h)))
    where
      later : eqb p q && not (eqb e 0) && ltb e g ≡ true → (p ≡ q) × (0 < e) × (e < g)
      later h =
          let l = and_left (eqb p q && not (eqb e 0)) (ltb e g) h in
          let some : (e ≡ 0 → ⊥) = eqb-false e 0 (not-true (eqb e 0) (and_right (eqb p q) (not (eqb e 0)) l)) in
          (eqb-true p q (and_left (eqb p q) (not (eqb e 0)) l), omega (arith, some), ltb-true e g (and_right (eqb p q && not (eqb e 0)) (ltb e g) h))

  may-follow : Follows p e q g → may_follow p e q g ≡ true
  unfolding may_follow
  may-follow (inl l) = rw (lt-ltb p q l)
  may-follow (inr (a, b, c)) = rw (le-ltb p q (omega arith), eq-eqb p q a, ne_eqb e 0 (λ z. omega arith), lt-ltb e g c)

-- the order goes on over a record in between
follows_on : (p e q g r h : ℕ) → may_follow p e q g ≡ true → may_follow q g r h ≡ true → may_follow p e r h ≡ true
follows_on p e q g r h a b = may-follow p e r h (⊎_elim
    (λ (l : p < q). ⊎_elim (λ (m : q < r). inl (omega arith)) (λ (m : (q ≡ r) × (0 < g) × (g < h)). inl (omega (arith, m))) (follows q g r h b))
    (λ (l : (p ≡ q) × (0 < e) × (e < g)). ⊎_elim (λ (m : q < r). inl (omega (arith, l))) (λ (m : (q ≡ r) × (0 < g) × (g < h)). inr
    (omega (arith, l, m), l.1, omega (arith, l, m))) (follows q g r h b))
    (follows p e q g a))

-- ---- what holds of every file that is taken

module _ (f : List ℕ) (n : ℕ) (e : frames_of f ≡ Ok n) where
  abbrev picture_in : ℕ → ℕ
  picture_in i = picture_at f (i * record_bytes)

  abbrev field_in : ℕ → ℕ
  field_in i = field_at f (i * record_bytes)

  taken : Taken (bad_at f) f n
  unfolding frames_of
  taken = taken_is (bad_at f) f n e

  good : (i : ℕ) → i < n → good_alone f (i * record_bytes) && in_order f i ≡ true
  unfolding bad_at
  good i l = not-false (good_alone f (i * record_bytes) && in_order f i) (taken.good i (rw taken.count at l))

  next : (i : ℕ) → suc i < n → may_follow (picture_in i) (field_in i) (picture_in (suc i)) (field_in (suc i)) ≡ true
  unfolding in_order
  next i l =
      let h : in_order f (suc i) ≡ true = and_right (good_alone f (suc i * record_bytes)) (in_order f (suc i)) (good (suc i) l) in
      rw (ne_eqb (suc i) 0 (λ z. omega arith), back i) at h
    where
      back : (i : ℕ) → suc i - 1 ≡ i
      back i = omega arith

  -- every record may follow every earlier one, not only the one before it
  pub pairs-rise : (i j : ℕ) → i < j → j < n → may_follow (picture_in i) (field_in i) (picture_in j) (field_in j) ≡ true
  pairs-rise i zero l m = absurd (not-suc-le-zero l)
  pairs-rise i (suc j) l m = ⊎_elim
      (λ (q : i ≡ j). subst (λ (k : ℕ). may_follow (picture_in k) (field_in k) (picture_in (suc j)) (field_in (suc j)) ≡ true) (sym q) (next j m))
      (λ (k : i < j). follows_on (picture_in i) (field_in i) (picture_in j) (field_in j) (picture_in (suc j)) (field_in (suc j)) (pairs-rise i j k (omega arith)) (next j m))
      (eq-or-lt_of_le (le_of_suc-le-suc l))

  fields-fine : (i : ℕ) → i < n → field_in i ≤ 2
  unfolding good_alone field_fine
  fields-fine i l =
      let a = i * record_bytes in
      let P = picture_fine (picture_at f a) && side_fine (side_at f a) in
      let F = field_fine (field_in i) in
      leb-true (field_in i) 2 (and_right P F (and_left (P && F) (spare_fine f a) (and_left (P && F && spare_fine f a) (values_fine f a) (and_left (good_alone f a) (in_order f i) (good i l)))))

  -- of two records with one picture the earlier is field 1 and the later field 2
  pub one-picture-two-fields : (i j : ℕ) → i < j → j < n → picture_in i ≡ picture_in j → (field_in i ≡ 1) × (field_in j ≡ 2)
  one-picture-two-fields i j l m q = ⊎_elim
      (λ (k : picture_in i < picture_in j). absurd (omega arith))
      (λ (k : (picture_in i ≡ picture_in j) × (0 < field_in i) × (field_in i < field_in j)). (omega (arith, k, fields-fine j m), omega (arith, k, fields-fine j m)))
      (follows (picture_in i) (field_in i) (picture_in j) (field_in j) (pairs-rise i j l m))

-- ---- files of before

module _ (f : List ℕ) where
  record GoodNow (a : ℕ) : Type 0 where
    alone : good_alone f a ≡ true
    whole : field_at f a ≡ 0

  -- a record that was good alone is, and is a whole frame
  base-alone : (a : ℕ) → base_good_alone f a ≡ true → GoodNow a
  unfolding good_alone picture_fine field_fine spare_fine
  base-alone a h =
      let p = picture_at f a in
      let A = leb 1 p && leb p 54000 in
      let S = side_fine (side_at f a) in
      let x = eqb (field_at f a) 0 in
      let y = eqb (num f (a + 6)) 0 in
      let z = eqb (num f (a + 7)) 0 in
      let h6 = and_left (A && S && x && y && z) (values_fine f a) h in
      let h5 = and_left (A && S && x && y) z h6 in
      let h4 = and_left (A && S && x) y h5 in
      let h3 = and_left (A && S) x h4 in
      let low = and_left (leb 1 p) (leb p 54000) (and_left A S h3) in
      let high = leb-true p 54000 (and_right (leb 1 p) (leb p 54000) (and_left A S h3)) in
      let field-0 = eqb-true (field_at f a) 0 (and_right (A && S) x h4) in
      record {
        alone = rw (
          low,
          le-leb p most_picture (omega arith),
          and_right A S h3,
          field-0,
          and_right (A && S && x) y h5,
          and_right (A && S && x && y) z h6,
          and_right (A && S && x && y && z) (values_fine f a) h,
        );
        whole = field-0;
      }

  base-order : (i : ℕ) → base_in_order f i ≡ true → in_order f i ≡ true
  unfolding in_order may_follow
  base-order i h = by_bool (in_order f i ≡ true) (eqb i 0) (λ t. rw t) (λ t. rw (t, rw t at h))

  was-good : (i : ℕ) → base_bad_at f i ≡ false → (base_good_alone f (i * record_bytes) ≡ true) × (base_in_order f i ≡ true)
  was-good i h =
      let g = not-false (base_good_alone f (i * record_bytes) && base_in_order f i) h in
      (and_left (base_good_alone f (i * record_bytes)) (base_in_order f i) g, and_right (base_good_alone f (i * record_bytes)) (base_in_order f i) g)

  good-now : (i : ℕ) → base_bad_at f i ≡ false → GoodNow (i * record_bytes)
  good-now i h = base-alone (i * record_bytes) (was-good i h).0

  base-good : (i : ℕ) → base_bad_at f i ≡ false → bad_at f i ≡ false
  unfolding bad_at
  base-good i h = rw ((good-now i h).alone, base-order i (was-good i h).1)

  -- a file that the reader of before took is taken, with as many records, and each is the frame that it was
  pub old-files-read-as-before : (n : ℕ) → base_frames_of f ≡ Ok n → (frames_of f ≡ Ok n) × ((i : ℕ) → i < n → frame_of f i ≡ base_frame_of f i)
  unfolding frames_of frame_of
  old-files-read-as-before n e =
      let t : Taken (base_bad_at f) f n = taken_is (base_bad_at f) f n e in
      (taken-so (bad_at f) f n (record { count = t.count; no_tail = t.no_tail; good = λ i l. base-good i (t.good i l) }), λ i l. same i (rw t.count at l) (t.good i (rw t.count at l)))
    where
      same : (i : ℕ) → i < whole_records f → base_bad_at f i ≡ false → frame_of f i ≡ base_frame_of f i
      same i l h = rw (lt-ltb i (whole_records f) l, (good-now i h).whole)
