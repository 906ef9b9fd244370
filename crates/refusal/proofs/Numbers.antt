-- A refusal is known by its number. Assumes nothing.
use Rattle.std.specs.Prelude.{◌≡◌, refl}
use native.Mathlib.Omega.{arith}
use Rattle.refusal.specs.declared.Refusal.{Refusal}
use Rattle.refusal.specs.declared.Refusal.TheVariants.{Components, Perplexity, Rate, Iterations, Angle, Axes, Size, Value, Single, Crowd, Start, Short, Wild, Profile, Method}
use Rattle.refusal.specs.Refusal.{refusal_number, refusal_of}

pub refusal-by-number : (r : Refusal) → refusal_of (refusal_number r) ≡ r
refusal-by-number Components = refl
refusal-by-number Perplexity = refl
refusal-by-number Rate = refl
refusal-by-number Iterations = refl
refusal-by-number Angle = refl
refusal-by-number Axes = refl
refusal-by-number Size = refl
refusal-by-number Value = refl
refusal-by-number Single = refl
refusal-by-number Crowd = refl
refusal-by-number Start = refl
refusal-by-number Short = refl
refusal-by-number Wild = refl
refusal-by-number Profile = refl
refusal-by-number Method = refl

-- none is 0, which tells that there is no refusal
pub refusal-some : (r : Refusal) → refusal_number r ≡ 0 → ⊥
refusal-some Components e = absurd (omega arith)
refusal-some Perplexity e = absurd (omega arith)
refusal-some Rate e = absurd (omega arith)
refusal-some Iterations e = absurd (omega arith)
refusal-some Angle e = absurd (omega arith)
refusal-some Axes e = absurd (omega arith)
refusal-some Size e = absurd (omega arith)
refusal-some Value e = absurd (omega arith)
refusal-some Single e = absurd (omega arith)
refusal-some Crowd e = absurd (omega arith)
refusal-some Start e = absurd (omega arith)
refusal-some Short e = absurd (omega arith)
refusal-some Wild e = absurd (omega arith)
refusal-some Profile e = absurd (omega arith)
refusal-some Method e = absurd (omega arith)
