-- Bytes are those of one frame at most.
use Rattle.std.proofs.Common.{◌≡◌, ℕ, ◌+◌, ◌*◌, Bool, true, false, cond, eqb, List, [], ◌∷◌, ◌++◌, get_or, sym, refl, ap, ◌∙◌, arith}
use Rattle.waterway.specs.declared.Leg.{Leg}
use Rattle.chartfile.specs.declared.frame.Frame.{Frame}
use Rattle.chartfile.specs.declared.frame.Frame.TheVariants.{Head, Entry, Pivot, Home, Last}
use Rattle.chartfile.specs.Frames.{high, low, leg_kind, fields, body, check, checked}

abbrev number_at : ℕ → List ℕ → ℕ
number_at k bytes = get_or bytes k 0 * 256 + get_or bytes (k + 1) 0

abbrev leg_in : List ℕ → Leg
leg_in bytes = record { from = number_at 1 bytes; to = number_at 3 bytes; length = number_at 5 bytes; locks = get_or bytes 7 0; «open» = eqb (get_or bytes 0 0) 2 }

abbrev unframe : List ℕ → Frame
unframe bytes =
    cond (eqb (get_or bytes 0 0) 1) (Head (number_at 2 bytes)) (cond (eqb (get_or bytes 0 0) 4) (Pivot (number_at 1 bytes)) (cond (eqb (get_or bytes 0 0) 5) (Home (number_at 1 bytes)) (cond (eqb (get_or bytes 0 0) 127) (Last (number_at 1 bytes)) (Entry (leg_in bytes)))))

whole : (n : ℕ) → high n * 256 + low n ≡ n
whole n = omega arith

rebuilt : (leg : Leg) (b : Bool) → leg.«open» ≡ b → Entry (record { from = high leg.from * 256 + low leg.from; to = high leg.to * 256 + low leg.to; length = high leg.length * 256 + low leg.length; locks = leg.locks; «open» = b }) ≡ Entry leg
rebuilt leg b e =
    let f = whole leg.from in
    let t = whole leg.to in
    let l = whole leg.length in
    let o = sym e in
    λ i. Entry (record { from = f i; to = t i; length = l i; locks = leg.locks; «open» = o i })

same_leg : (leg : Leg) (last : ℕ) (b : Bool) → leg.«open» ≡ b → unframe (leg_kind b ∷ fields leg ++ last ∷ []) ≡ Entry leg
same_leg leg last true e = rebuilt leg true e
same_leg leg last false e = rebuilt leg false e

unframes : (frame : Frame) → unframe (checked (body frame)) ≡ frame
unframes (Head n) = ap Head (whole n)
unframes (Entry leg) = same_leg leg (check (body (Entry leg))) leg.«open» refl
unframes (Pivot n) = ap Pivot (whole n)
unframes (Home n) = ap Home (whole n)
unframes (Last n) = ap Last (whole n)

pub one_frame : (bytes : List ℕ) (f g : Frame) → bytes ≡ checked (body f) → bytes ≡ checked (body g) → f ≡ g
one_frame bytes f g is also = sym (unframes f) ∙ ap unframe (sym is ∙ also) ∙ unframes g
