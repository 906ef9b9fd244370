-- Symmetrising in place: frame by frame, each with the lower ones, until the area holds the affinities. Assumes nothing.
use mathlib.Core.Path.{◌≡◌, refl, sym, ap, subst, ◌∙◌}
use mathlib.Core.List.{List}
use Prim.Native.Nat.{ℕ, ◌+◌, ◌*◌, ◌<◌, ◌≤◌}
use native.Mathlib.Omega.{arith}
use native.Mathlib.Decide.{ℕ_discrete, dec_lt}
use native.Mathlib.Nat.{zero-add, le_refl, not-suc-le-zero}
use lib.ListN.{length, drop, set, length-set}
use lib.Seq.{get_or-set_same, get_or-set_other, drop-set-lt}
use lib.Ieee.{Float, nan}
use Rattle.laws.specs.Loops.{loop}
use Rattle.laws.specs.Area.{at, zero64}
use Rattle.laws.proofs.Numbers.{row_in}
use Rattle.laws.proofs.Loops.{loop-keeps}
use Rattle.affinity_joins.specs.Joins.{joint_at, pair_step, frame_joined}

-- ---- places of an area of n columns

-- a lower row ends before a higher one begins
rows_apart : (n x y u v : ℕ) → y < n → x < u → x * n + y ≡ u * n + v → ⊥
rows_apart n x y u v h l e = omega (arith, row_in x u n (u * n) l (le_refl (u * n)))

-- one place is of one row and one column
place_is : (n x y u v : ℕ) → y < n → v < n → x * n + y ≡ u * n + v → (x ≡ u) × (y ≡ v)
place_is n x y u v h m e = elim (dec_lt x u) [
  | yes l ↦ absurd (rows_apart n x y u v h l e)
  | no a ↦ elim (dec_lt u x) [ yes l ↦ absurd (rows_apart n u v x y m l (sym e)) | no b ↦ same (between x u a b) ]
]
  where
    between : (x u : ℕ) → (x < u → ⊥) → (u < x → ⊥) → x ≡ u
    between x u a b = omega arith

    same : x ≡ u → (x ≡ u) × (y ≡ v)
    same q = (q, let e' : x * n + y ≡ x * n + v = e ∙ ap (λ (z : ℕ). z * n + v) (sym q) in omega arith)

pub place-in : (n x y l : ℕ) → x < n → y < n → n * n ≤ l → x * n + y < l
place-in n x y l h m e = omega (arith, row_in x n n l h e)

module _ (n : ℕ) (d : Float) (l₀ : List Float) (room : n * n ≤ length l₀) where
  -- ---- the frames below i are joined with each other, and i with those below j; all other places are as they were

  pub record Joins (i j : ℕ) (l : List Float) : Type 0 where
    pub size : length l ≡ length l₀
    pub tail : drop (n * n) l ≡ drop (n * n) l₀
    pub own : (a : ℕ) → a < i → a < n → at l (a * n + a) ≡ zero64
    pub joint : (a b : ℕ) → a < b → b < n → b ≤ i → (b ≡ i → a < j) → (at l (a * n + b) ≡ joint_at l₀ n d b a) × (at l (b * n + a) ≡ joint_at l₀ n d b a)
    pub waits : (a b : ℕ) → a < b → b < n → i ≤ b → (b ≡ i → j ≤ a) → (at l (a * n + b) ≡ at l₀ (a * n + b)) × (at l (b * n + a) ≡ at l₀ (b * n + a))

  joins-start : Joins 0 0 l₀
  joins-start = record {
    size = refl;
    tail = refl;
    own = λ a h. absurd (not-suc-le-zero h);
    joint = λ a b h m o. absurd (omega arith);
    waits = λ a b h m o g. (refl, refl);
  }

  module _ {i j : ℕ} {l : List Float} (hi : i < n) (hj : j < i) (r : Joins i j l) where
    abbrev v : Float
    v = joint_at l n d i j

    abbrev low : ℕ
    low = j * n + i

    abbrev high : ℕ
    high = i * n + j

    value : v ≡ joint_at l₀ n d i j
    value = rw ((r.waits j i hj hi (le_refl i) (λ e. le_refl j)).0, (r.waits j i hj hi (le_refl i) (λ e. le_refl j)).1)

    other : (p : ℕ) → (p ≡ low → ⊥) → (p ≡ high → ⊥) → at (pair_step n d i j l) p ≡ at l p
    other p a b = get_or-set_other (set l low v) high p v nan b ∙ get_or-set_other l low p v nan a

    at_low : at (pair_step n d i j l) low ≡ v
    at_low = get_or-set_other (set l low v) high low v nan (λ e. absurd (omega (arith, (place_is n j i i j hi (omega arith) e).0))) ∙
        get_or-set_same l low v nan (rw r.size (place-in n j i (length l₀) (omega arith) hi room))

    at_high : at (pair_step n d i j l) high ≡ v
    at_high = get_or-set_same (set l low v) high v nan (rw (length-set l low v, r.size) (place-in n i j (length l₀) hi (omega arith) room))

    -- both places of any other pair
    others : (a b : ℕ) → a < b → b < n → (b ≡ i → a ≡ j → ⊥) → (at (pair_step n d i j l) (a * n + b) ≡ at l (a * n + b)) × (at (pair_step n d i j l) (b * n + a) ≡ at l (b * n + a))
    others a b h m o = (
      other (a * n + b) (λ e. let q = place_is n a b j i m hi e in o q.1 q.0) (λ e. let q = place_is n a b i j m (omega arith) e in omega (arith, q)),
      other (b * n + a) (λ e. let q = place_is n b a j i (omega arith) hi e in omega (arith, q)) (λ e. let q = place_is n b a i j (omega arith) (omega arith) e in o q.0 q.1),
    )

    joins_pair : Joins i (j + 1) (pair_step n d i j l)
    joins_pair = record {
      size = length-set (set l low v) high v ∙ length-set l low v ∙ r.size;
      tail = drop-set-lt (n * n) (set l low v) high v (place-in n i j (n * n) hi (omega arith) (le_refl (n * n))) ∙
          drop-set-lt (n * n) l low v (place-in n j i (n * n) (omega arith) hi (le_refl (n * n))) ∙ r.tail;
      own = λ a h m. other (a * n + a) (λ e. let q = place_is n a a j i m hi e in omega (arith, q)) (λ e. let q = place_is n a a i j m (omega arith) e in omega (arith, q)) ∙ r.own a h m;
      joint = λ a b h m o g. elim (ℕ_discrete a j) [
        | yes q ↦ elim (ℕ_discrete b i) [
          | yes s ↦ rw (q, s) (at_low ∙ value, at_high ∙ value)
          | no s ↦ kept a b h m o (λ e. absurd (s e)) (λ e. absurd (s e))
        ]
        | no q ↦ kept a b h m o (λ e. omega (arith, g e)) (λ e x. q x)
      ];
      waits = λ a b h m o g.
          let z = others a b h m (λ e x. omega (arith, g e)) in
          let w = r.waits a b h m o (λ e. omega (arith, g e)) in
          (z.0 ∙ w.0, z.1 ∙ w.1);
    }
      where
        kept : (a b : ℕ) → a < b → b < n → b ≤ i → (b ≡ i → a < j) → (b ≡ i → a ≡ j → ⊥) → (at (pair_step n d i j l) (a * n + b) ≡ joint_at l₀ n d b a) ×
            (at (pair_step n d i j l) (b * n + a) ≡ joint_at l₀ n d b a)
        kept a b h m o g x =
            let z = others a b h m x in
            let w = r.joint a b h m o g in
            (z.0 ∙ w.0, z.1 ∙ w.1)

  module _ {i : ℕ} {l : List Float} (hi : i < n) (r : Joins i i l) where
    abbrev mine : ℕ
    mine = i * n + i

    beside : (a b : ℕ) → a < n → b < n → (a ≡ i → b ≡ i → ⊥) → at (set l mine zero64) (a * n + b) ≡ at l (a * n + b)
    beside a b h m o = get_or-set_other l mine (a * n + b) zero64 nan (λ e. let q = place_is n a b i i m hi e in o q.0 q.1)

    joins-own : Joins (i + 1) 0 (set l mine zero64)
    joins-own = record {
      size = length-set l mine zero64 ∙ r.size;
      tail = drop-set-lt (n * n) l mine zero64 (place-in n i i (n * n) hi hi (le_refl (n * n))) ∙ r.tail;
      own = λ a h m. elim (ℕ_discrete a i) [
        | yes q ↦ rw q (get_or-set_same l mine zero64 nan (rw r.size (place-in n i i (length l₀) hi hi room)))
        | no q ↦ beside a a m m (λ e x. q e) ∙ r.own a (omega arith) m
      ];
      joint = λ a b h m o g.
          let w = r.joint a b h m (below b o (λ e. not-suc-le-zero (g e))) (λ e. omega arith) in
          (beside a b (omega arith) m (λ e x. omega arith) ∙ w.0, beside b a m (omega arith) (λ e x. omega arith) ∙ w.1);
      waits = λ a b h m o g.
          let w = r.waits a b h m (omega arith) (λ e. omega arith) in
          (beside a b (omega arith) m (λ e x. omega arith) ∙ w.0, beside b a m (omega arith) (λ e x. omega arith) ∙ w.1);
    }
      where
        below : (b : ℕ) → b ≤ i + 1 → (b ≡ i + 1 → ⊥) → b ≤ i
        below b o g = omega arith

  joins-frame : (i : ℕ) (l : List Float) → i < n → Joins i 0 l → Joins (i + 1) 0 (frame_joined n d i l)
  joins-frame i l h r = joins-own h (subst (λ (j : ℕ). Joins i j (loop (pair_step n d i) i 0 l)) (zero-add i)
      (loop-keeps (λ j m. Joins i j m) (pair_step n d i) i 0 l (λ j m b s. joins_pair h (omega arith) s) r))

  pub joins-all : Joins n 0 (loop (frame_joined n d) n 0 l₀)
  joins-all = subst (λ (i : ℕ). Joins i 0 (loop (frame_joined n d) n 0 l₀)) (zero-add n)
      (loop-keeps (λ i m. Joins i 0 m) (frame_joined n d) n 0 l₀ (λ i m b r. joins-frame i m (omega arith) r) joins-start)
