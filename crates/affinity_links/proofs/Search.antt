-- Finding a frame in a rising row: by std's search, and by a cursor that falls with the frames. Assumes nothing.
use mathlib.Core.Path.{◌≡◌, refl, sym, ap, subst, ◌∙◌}
use mathlib.Core.Logic.{⊎_elim, ◌⊎◌, inl, inr}
use mathlib.Core.List.{List}
use Prim.Native.Nat.{ℕ, ◌+◌, ◌-◌, ◌*◌, ◌%◌, ◌<◌, ◌≤◌}
use native.Mathlib.Omega.{arith}
use native.Mathlib.Decide.{ℕ_discrete, dec_lt}
use native.Mathlib.Nat.{le_refl}
use mathlib.Core.Bool.{false, cond, true≢false}
use lib.Dec.{eqb, ltb}
use lib.ListN.{length, get_or, take, drop, length-drop}
use lib.Seq.{length-take-le, get_or-take}
use Rattle.std.proofs.lemmas.List.{get_or-drop}
use Rattle.std.proofs.lemmas.List.Sorted.{searched}
use Rattle.std.specs.List.Sorted.{IsBinarySearchResult}
use Rattle.std.specs.Ordering.{nat_cmp}
use Rattle.std.specs.Result.{result_ok}
use Rattle.std.specs.Prelude.{Result, Ok, Err}
use lib.Ieee.{Float, binary64, add}
use borrow.Author.Tests.{eq-eqb, ne_eqb, lt-ltb, le-ltb}
use Rattle.laws.specs.Domain.{most_frames}
use Rattle.laws.specs.Area.{at, num, zero64}
use Rattle.laws.proofs.First.{first-at, first-none, first-same}
use Rattle.affinity_links.specs.Links.{Rising, found, found_place, past, held_of, cursor_of, fallen_of, Cursor, plus_of, plus_fallen, Within, WithinBoth}

-- ---- by its place

module _ (l : List ℕ) (a k j : ℕ) where
  pub found_at : Rising l a k → (m : ℕ) → m < k → num l (a + m) ≡ j → m ≡ found l a k j
  found_at r m h e = sym (first-at (λ t. eqb (num l (a + t)) j) k m h (eq-eqb (num l (a + m)) j e) (λ s q. ne_eqb (num l (a + s)) j (λ x. omega (arith, r s m q h, x, e))))

  module _ (room : a + k ≤ length l) (rise : Rising l a k) where
    part-at : (t : ℕ) → t < k → get_or (take k (drop a l)) t 0 ≡ num l (a + t)
    part-at t q = get_or-take k (drop a l) t 0 q ∙ get_or-drop a l t 0

    part-long : length (take k (drop a l)) ≡ k
    part-long = length-take-le k (drop a l) (omega (arith, length-drop a l))

    part-rises : (s t : ℕ) → s ≤ t → t < length (take k (drop a l)) → get_or (take k (drop a l)) s 0 ≤ get_or (take k (drop a l)) t 0
    part-rises s t h q = elim (dec_lt s t) [
      | yes w ↦ omega (arith, part-long, part-at s (omega (arith, part-long)), part-at t (omega (arith, part-long)), rise s t w (omega (arith, part-long)))
      | no w ↦ subst (λ (x : ℕ). get_or (take k (drop a l)) s 0 ≤ get_or (take k (drop a l)) x 0) (same s t h w) (le_refl _)
    ]
      where
        same : (s t : ℕ) → s ≤ t → (s < t → ⊥) → s ≡ t
        same s t h w = omega arith

    found-none : (m : ℕ) → ((t : ℕ) → t < m → t < k → num l (a + t) < j) → ((t : ℕ) → m ≤ t → t < k → j < num l (a + t)) → found l a k j ≡ k
    found-none m under over = first-none (λ t. eqb (num l (a + t)) j) k (λ t q. ne_eqb (num l (a + t)) j (λ x. elim
        (dec_lt t m) [ yes w ↦ omega (arith, under t w q, x) | no w ↦ omega (arith, over t (omega arith) q, x) ]))

    -- what std's search finds among them
    pub sought : (r : Result ℕ ℕ) → IsBinarySearchResult (λ y. nat_cmp y j) (take k (drop a l)) r → result_ok r ≡ found_place l a k j
    sought (Ok i) h =
        let f = searched (take k (drop a l)) j (Ok i) h part-rises in
        let q : i < k = omega (arith, part-long, f.0) in
        let e : i ≡ found l a k j = found_at rise i q (sym (part-at i q) ∙ f.1) in
        rw (sym e, lt-ltb i k q)
    sought (Err i) h =
        let f = searched (take k (drop a l)) j (Err i) h part-rises in
        let e : found l a k j ≡ k = found-none i (λ t w q. omega (arith, f.1 t w, part-at t q)) (λ t w q. omega (arith, f.2 t w (omega (arith, part-long, q)), part-at t q)) in
        rw (e, le-ltb k k (le_refl k))

pub found-same : (I L : List ℕ) (a b k j : ℕ) → ((t : ℕ) → t < k → num I (a + t) ≡ num L (b + t)) → found I a k j ≡ found L b k j
found-same I L a b k j h = first-same (λ t. eqb (num I (a + t)) j) (λ t. eqb (num L (b + t)) j) k (λ t l. ap (λ (x : ℕ). eqb x j) (h t l))

-- ---- words of cursors

nil : (c : ℕ) → (0 < c → ⊥) → c ≡ 0
nil c m = omega arith

module _ (f : ℕ → ℕ) where
  word_none : held_of f 0 ≡ 0
  unfolding held_of
  word_none = refl

  word_some : (c : ℕ) → 0 < c → held_of f c ≡ c * 8192 + (f (c - 1) + 1)
  unfolding held_of
  word_some c h = rw (ne_eqb c 0 (λ x. omega arith))

  -- a number below 8191 leaves room for the cursor
  word-cursor : (c : ℕ) → (0 < c → f (c - 1) < most_frames) → cursor_of (held_of f c) ≡ c
  word-cursor c h = elim (dec_lt 0 c) [
    | yes m ↦ omega (arith, word_some c m, h m)
    | no m ↦ rw (nil c m) (rw word_none)
  ]

  -- a word falls where its number is j, and then its cursor falls by one
  fallen-hit : (w j : ℕ) → w % 8192 ≡ j + 1 → fallen_of f w j ≡ held_of f (cursor_of w - 1)
  unfolding fallen_of
  fallen-hit w j e = rw (eq-eqb (w % 8192) (j + 1) e)

  fallen-miss : (w j : ℕ) → (w % 8192 ≡ j + 1 → ⊥) → fallen_of f w j ≡ w
  unfolding fallen_of
  fallen-miss w j d = rw (ne_eqb (w % 8192) (j + 1) d)

-- where a word falls, so does its cursor
pub within_low : {I : List ℕ} {a w p : ℕ} (j : ℕ) → Within I a w → p ≡ fallen_of (past I a) w j → p < w → cursor_of p < cursor_of w
within_low {I} {a} {w} {p} j b q l = elim (ℕ_discrete (w % 8192) (j + 1)) [
  | yes e ↦ omega (arith, ap cursor_of (q ∙ fallen-hit (past I a) w j e), word-cursor (past I a) (cursor_of w - 1) (λ h. b.frames (cursor_of w - 1 - 1) (omega arith)), b.some (omega arith))
  | no d ↦ absurd (omega (arith, q ∙ fallen-miss (past I a) w j d))
]

pub word_same : (f g : ℕ → ℕ) (c : ℕ) → (0 < c → f (c - 1) ≡ g (c - 1)) → held_of f c ≡ held_of g c
word_same f g c h = elim (dec_lt 0 c) [
  | yes m ↦ omega (arith, word_some f c m, word_some g c m, h m)
  | no m ↦ ap (held_of f) (nil c m) ∙ word_none f ∙ sym (ap (held_of g) (nil c m) ∙ word_none g)
]

-- only what stands below the cursor is read
fallen-same : (f g : ℕ → ℕ) (w j : ℕ) → ((t : ℕ) → t < cursor_of w → f t ≡ g t) → fallen_of f w j ≡ fallen_of g w j
fallen-same f g w j h = elim (ℕ_discrete (w % 8192) (j + 1)) [
  | yes e ↦ fallen-hit f w j e ∙ word_same f g (cursor_of w - 1) (λ p. h (cursor_of w - 1 - 1) (omega arith)) ∙ sym (fallen-hit g w j e)
  | no d ↦ fallen-miss f w j d ∙ sym (fallen-miss g w j d)
]

-- ---- cursors among k rising numbers

pub cursor-same : {f g : ℕ → ℕ} {k j w : ℕ} → ((t : ℕ) → t < k → f t ≡ g t) → Cursor f k j w → Cursor g k j w
cursor-same {f} {g} {k} {j} {w} h u = record {
  word = u.word ∙ word_same f g (cursor_of w) (λ p. h (cursor_of w - 1) (omega (arith, u.within)));
  within = u.within;
  under = λ t l. omega (arith, h t (omega (arith, u.within)), u.under t l);
  over = λ t a b. omega (arith, h t b, u.over t a b);
}

pub cursor-at : {f : ℕ → ℕ} {k j : ℕ} (c : ℕ) → c ≤ k → j ≤ most_frames → ((t : ℕ) → t < c → f t < j) → ((t : ℕ) → c ≤ t → t < k → j ≤ f t) → Cursor f k j (held_of f c)
cursor-at {f} {k} {j} c h m under over =
    let e : cursor_of (held_of f c) ≡ c = word-cursor f c (λ p. omega (arith, under (c - 1) (omega arith))) in
    record {
      word = ap (held_of f) (sym e);
      within = omega (arith, e);
      under = λ t l. under t (omega (arith, e));
      over = λ t a b. over t (omega (arith, e)) b;
    }

-- ---- a turn at j: the numbers from place a on stood in I₀ and their values in S₀ at first; below the cursor they stand still

pub record Turn (S S₀ : List Float) (I I₀ : List ℕ) (a k j w : ℕ) : Type 0 where
  pub rise : Rising I₀ a k
  pub small : j < most_frames
  pub cursor : Cursor (past I₀ a) k (j + 1) w
  pub same_i : (t : ℕ) → t < cursor_of w → num I (a + t) ≡ num I₀ (a + t)
  pub same_s : (t : ℕ) → t < cursor_of w → at S (a + t) ≡ at S₀ (a + t)

module _ {S S₀ : List Float} {I I₀ : List ℕ} {a k j w : ℕ} (turn : Turn S S₀ I I₀ a k j w) where
  u : Cursor (past I₀ a) k (j + 1) w
  u = turn.cursor

  abbrev f : ℕ → ℕ
  f = past I₀ a

  abbrev c : ℕ
  c = cursor_of w

  abbrev fell : ℕ
  fell = fallen_of (past I a) w j

  first-fell : fell ≡ fallen_of f w j
  first-fell = fallen-same (past I a) f w j turn.same_i

  -- the number in the word
  top : 0 < c → w ≡ c * 8192 + (f (c - 1) + 1)
  top h = u.word ∙ word_some f c h

  bottom : (0 < c → ⊥) → w ≡ 0
  bottom h = u.word ∙ ap (held_of f) (nil c h) ∙ word_none f

  missed : ((t : ℕ) → t < c → f t < j) → found I₀ a k j ≡ k
  missed h = first-none (λ t. eqb (f t) j) k (λ t l. ne_eqb (f t) j (λ x. elim (dec_lt t c) [
    | yes m ↦ omega (arith, h t m, x)
    | no m ↦ omega (arith, u.over t (omega arith) l, x)
  ]))

  -- the cursor falls onto j, or j is not there
  told : ((0 < c) × (fell ≡ held_of f (c - 1)) × (found I₀ a k j ≡ c - 1) × (f (c - 1) ≡ j)) ⊎ ((fell ≡ w) × (found I₀ a k j ≡ k) × ((t : ℕ) → t < c → f t < j))
  told = elim (dec_lt 0 c) [
    | no z ↦
        let h : (t : ℕ) → t < c → f t < j = λ t l. absurd (omega arith) in
        inr (first-fell ∙ fallen-miss f w j (λ x. omega (arith, bottom z, x)), missed h, h)
    | yes z ↦ elim (ℕ_discrete (f (c - 1)) j) [
      | yes e ↦ inl (z, first-fell ∙ fallen-hit f w j (omega (arith, top z, e)), sym (found_at I₀ a k j turn.rise (c - 1) (omega (arith, u.within)) e), e)
      | no d ↦
          let last : f (c - 1) < j = omega (arith, d, u.under (c - 1) (omega arith)) in
          let h : (t : ℕ) → t < c → f t < j = λ t l. elim (dec_lt t (c - 1)) [
            | yes m ↦
                omega (arith, turn.rise t (c - 1) m (omega (arith, u.within)), last)
            | no m ↦ subst (λ (x : ℕ). f x < j) (end t l m) last
          ] in
          inr (first-fell ∙ fallen-miss f w j (λ x. omega (arith, top z, x, last)), missed h, h)
    ]
  ]
    where
      end : (t : ℕ) → t < c → (t < c - 1 → ⊥) → c - 1 ≡ t
      end t l m = omega arith

  pub turn-next : Cursor f k j fell
  turn-next = ⊎_elim
      (λ s. subst (λ (x : ℕ). Cursor f k j x) (sym s.1) (cursor-at (c - 1) (omega (arith, u.within)) (omega (arith, turn.small))
      (λ t l. omega (arith, turn.rise t (c - 1) l (omega (arith, u.within, s.0)), s.3))
      (λ t m b. elim (dec_lt t c) [ yes h ↦ subst (λ (x : ℕ). j ≤ f x) (end t m h) (omega (arith, s.3)) | no h ↦ omega (arith, u.over t (omega arith) b) ])))
      (λ s. subst (λ (x : ℕ). Cursor f k j x) (sym s.0) (record { word = u.word; within = u.within; under = s.2; over = λ t m b. omega (arith, u.over t m b) }))
      told
    where
      end : (t : ℕ) → c - 1 ≤ t → t < c → c - 1 ≡ t
      end t l m = omega arith

  -- the cursor that fell stands at j
  fell-to : (0 < c) → fell ≡ held_of f (c - 1) → cursor_of fell ≡ c - 1
  fell-to h e = ap cursor_of e ∙ word-cursor f (c - 1) (λ p. omega (arith, u.under (c - 1 - 1) (omega arith)))

  pub turn-yes : ltb fell w ≡ ltb (found I₀ a k j) k
  turn-yes = ⊎_elim
      (λ s. rw s.2 (lt-ltb fell w (omega (arith, s.0, fell-to s.0 s.1)) ∙ sym (lt-ltb (c - 1) k (omega (arith, u.within, s.0)))))
      (λ s. rw (s.0, s.1) (le-ltb w w (le_refl w) ∙ sym (le-ltb k k (le_refl k))))
      told

  -- where the word does not fall, the cursor is one for j as it stands
  pub turn-stays : ltb fell w ≡ false → Cursor f k j w
  turn-stays e = ⊎_elim
      (λ s. absurd (true≢false (sym (lt-ltb fell w (omega (arith, s.0, fell-to s.0 s.1))) ∙ e)))
      (λ s. subst (λ (x : ℕ). Cursor f k j x) s.0 turn-next)
      told

  -- what is read where it falls is what was read at first where j stood
  turn-reads : (x y : ℕ → Float) (z : Float) → ((t : ℕ) → t < c → x t ≡ y t) → cond (ltb fell w) (x (cursor_of fell)) z ≡ cond (ltb (found I₀ a k j) k) (y (found I₀ a k j)) z
  turn-reads x y z h = ⊎_elim
      (λ s. rw (lt-ltb fell w (omega (arith, s.0, fell-to s.0 s.1)), fell-to s.0 s.1, s.2, lt-ltb (c - 1) k (omega (arith, u.within, s.0))) (h (c - 1) (omega (arith, s.0))))
      (λ s. rw (s.0, s.1, le-ltb w w (le_refl w), le-ltb k k (le_refl k)))
      told

  pub turn-plus : (v : Float) → plus_fallen S a w fell v ≡ plus_of S₀ a k (found I₀ a k j) v
  turn-plus v = turn-reads (λ t. add binary64 v (at S (a + t))) (λ t. add binary64 v (at S₀ (a + t))) v (λ t l. ap (add binary64 v) (turn.same_s t l))

  pub turn-value : cond (ltb fell w) (at S (a + cursor_of fell)) zero64 ≡ cond (ltb (found I₀ a k j) k) (at S₀ (a + found I₀ a k j)) zero64
  turn-value = turn-reads (λ t. at S (a + t)) (λ t. at S₀ (a + t)) zero64 turn.same_s

  -- what is below the cursor may be read
  pub turn-within : k ≤ most_frames → a + k ≤ length I → a + k ≤ length S → WithinBoth S I a w
  turn-within h m l = (
    record {
      small = omega (arith, u.within);
      some = λ p. elim (dec_lt 0 c) [ yes z ↦ z | no z ↦ absurd (omega (arith, bottom z)) ];
      inside = omega (arith, u.within);
      frames = λ t b. omega (arith, turn.same_i t b, u.under t b);
    },
    omega (arith, u.within),
  )
