-- A frame as plain words of 64 bits: picture, side, field, six features, two starts. Definitions only.
use Rattle.std.specs.Prelude.{List, ℕ, ◌+◌, set, Float}
use Rattle.std.specs.Float.{binary64}
use Rattle.std.specs.Float.Ieee.{to_bits}
use Rattle.laws.specs.Loops.{loop}
use Rattle.laws.specs.Area.{at}
use Rattle.frames.specs.declared.Frame.{Frame}

abbrev pub features_put : List Float → List ℕ → List ℕ
features_put v w = loop (λ k x. set x (3 + k) (to_bits binary64 (at v k))) 6 0 w

abbrev pub starts_put : List Float → List ℕ → List ℕ
starts_put v w = loop (λ k x. set x (9 + k) (to_bits binary64 (at v k))) 2 0 w

unfoldable pub frame_put : Frame → List ℕ → List ℕ
frame_put f w = starts_put f.starts (features_put f.features (set (set (set w 0 f.picture) 1 f.side) 2 f.field))
