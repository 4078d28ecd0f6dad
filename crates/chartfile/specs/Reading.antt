-- The frame that the bytes of a line stand for.
use Rattle.std.specs.Prelude.{◌≡◌, ℕ, ◌%◌, List, sum, Option, MatchOption, ◌≢◌}
use Rattle.chartfile.specs.declared.frame.Frame.{Frame}
use Rattle.chartfile.specs.Frames.{body, checked}

-- o is the frame of bytes that add up, and none where they are no frame's
abbrev pub StandsFor : List ℕ → Option Frame → Type 0
StandsFor bytes o = MatchOption o ((frame : Frame) → bytes ≢ checked (body frame)) (λ frame. sum bytes % 256 ≡ 0 → bytes ≡ checked (body frame))
