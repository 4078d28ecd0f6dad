-- Marks added one after the other, and a leg that is entered and then closed.
use Rattle.std.proofs.Common.{◌≡◌, ℕ, zero, suc, ◌+◌, ◌<◌, ◌≤◌, true, false, [], ◌∷◌, ◌++◌, length, set, sym, refl, ap, ◌∙◌, inl, inr, arith}
use lib.Seq.{set-append_seam}
use Rattle.std.proofs.lemmas.List.{length_push, get_or_push}
use Rattle.waterway.specs.declared.Leg.{Leg}
use Rattle.waterway.specs.Legs.{no_leg, leg_at}
use Rattle.chart.specs.declared.refusal.Refusal.{Refusal}
use Rattle.chart.specs.State.{State, marks}
use Rattle.chart.specs.Calls.{adding, with_leg, turning, with_leg_turned}
use Rattle.chartfile.specs.declared.frame.Frame.TheVariants.{Head, Entry}
use Rattle.chartfile.specs.Entries.{with_marks, entry_checks, RefusedBy, entered}

pub marks_with_marks : (n : ℕ) (s : State) → marks (with_marks n s) ≡ marks s + n
marks_with_marks zero s = omega arith
marks_with_marks (suc n) s = let before = marks_with_marks n s in let more = length_push (with_marks n s).pivots false in omega arith

-- too many marks: one of them is refused
pub refused_marks : (s t : State) (i n : ℕ) (refusal : Refusal) → t ≡ with_marks i s → i < n → RefusedBy (adding t) refusal → RefusedBy (entry_checks s (Head n)) refusal
refused_marks s t i n refusal is before (inl h) =
    let many = marks_with_marks i s in
    let full : 256 ≤ marks (with_marks i s) = rw is at h.0 in
    inl (omega arith, h.1)
refused_marks s t i n refusal is before (inr h) = absurd h.1

module _ (s : State) (leg : Leg) where
  opened : Leg
  opened = record { from = leg.from; to = leg.to; length = leg.length; locks = leg.locks; «open» = true }

  with_it : State
  with_it = with_leg s leg.from leg.to leg.length leg.locks

  newest : leg_at with_it.legs (length s.legs) ≡ opened
  unfolding with_it opened
  newest = get_or_push s.legs opened no_leg (length s.legs) refl

  -- a new leg can be closed
  not_refused : (refusal : Refusal) → RefusedBy (turning (with_leg s leg.from leg.to leg.length leg.locks) (length s.legs) false) refusal → ⊥
  unfolding with_it opened
  not_refused refusal (inl h) = let long = length_push s.legs opened in let few = h.0 in omega arith
  not_refused refusal (inr (_, inl h)) = let still = h.0 in let new = ap (λ (l : Leg). l.«open») newest in let z : ◌≡◌ {A = ℕ} 0 1 = cc in omega arith
  not_refused refusal (inr (_, inr h)) = h.1

  shut_of : Leg → Leg
  shut_of l = record { from = l.from; to = l.to; length = l.length; locks = l.locks; «open» = false }

  closed : leg.«open» ≡ false → with_leg_turned (with_leg s leg.from leg.to leg.length leg.locks) (length s.legs) false ≡ entered s (Entry leg)
  unfolding with_it opened shut_of
  closed shut =
      let state = sym shut in
      let as_it_is : shut_of opened ≡ leg = λ i. record { from = leg.from; to = leg.to; length = leg.length; locks = leg.locks; «open» = state i } in
      let legs : set with_it.legs (length s.legs) (shut_of (leg_at with_it.legs (length s.legs))) ≡ s.legs ++ leg ∷ [] =
      ap (λ (l : Leg). set with_it.legs (length s.legs) (shut_of l)) newest ∙ set-append_seam s.legs opened [] (shut_of opened) ∙ ap (λ (l : Leg). s.legs ++ l ∷ []) as_it_is
      in
      λ i. record { legs = legs i; pivots = s.pivots; home = s.home; worked = false }

  module _ (t : State) (number : ℕ) (is : t ≡ with_leg s leg.from leg.to leg.length leg.locks) (at : number ≡ length s.legs) where
    pub closing_new : (refusal : Refusal) → RefusedBy (turning t number false) refusal → ⊥
    closing_new refusal refused = not_refused refusal (rw (is, at) at refused)

    pub closed_new : leg.«open» ≡ false → with_leg_turned t number false ≡ entered s (Entry leg)
    closed_new shut = rw (is, at) (closed shut)
