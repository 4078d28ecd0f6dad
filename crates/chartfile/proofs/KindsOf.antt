-- The first byte of a frame tells its kind.
use Rattle.std.proofs.Common.{◌≡◌, ℕ, Bool, true, false, List, get_or, refl, sym, ap, ◌∙◌}
use Rattle.chartfile.specs.declared.frame.Frame.{Frame}
use Rattle.chartfile.specs.declared.frame.Frame.TheVariants.{Head, Entry, Pivot, Home, Last}
use Rattle.chartfile.specs.Frames.{leg_kind, body, checked}
use Rattle.chartfile.specs.Kinds.{byte_of, leg_kind_of, kind_of}
use Rattle.chartfile.specs.declared.kind.Kind.{Kind}

abbrev kind : Frame → ℕ
kind frame = get_or (body frame) 0 0

same_kind : (bytes : List ℕ) (frame : Frame) → bytes ≡ checked (body frame) → get_or bytes 0 0 ≡ kind frame
same_kind bytes (Head marks) is = ap (λ (l : List ℕ). get_or l 0 0) is
same_kind bytes (Entry leg) is = ap (λ (l : List ℕ). get_or l 0 0) is
same_kind bytes (Pivot mark) is = ap (λ (l : List ℕ). get_or l 0 0) is
same_kind bytes (Home mark) is = ap (λ (l : List ℕ). get_or l 0 0) is
same_kind bytes (Last count) is = ap (λ (l : List ℕ). get_or l 0 0) is

first_byte : (frame : Frame) → kind frame ≡ byte_of (kind_of frame)
first_byte (Head marks) = refl
first_byte (Entry leg) = leg_byte leg.«open»
  where
    leg_byte : (b : Bool) → leg_kind b ≡ byte_of (leg_kind_of b)
    leg_byte true = refl
    leg_byte false = refl
first_byte (Pivot mark) = refl
first_byte (Home mark) = refl
first_byte (Last count) = refl

pub unknown_kind : (bytes : List ℕ) (byte : ℕ) → get_or bytes 0 0 ≡ byte → ((kind : Kind) → byte_of kind ≡ byte → ⊥) → (frame : Frame) → bytes ≡ checked (body frame) → ⊥
unknown_kind bytes byte first none frame is = none (kind_of frame) (sym (first_byte frame) ∙ sym (same_kind bytes frame is) ∙ first)
