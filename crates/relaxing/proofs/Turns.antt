-- One turn of a search: a pivot u is drawn, the marks of its bundle take offers, and offer their labels on.
use Rattle.std.proofs.Common.{◌≡◌, ℕ, ◌+◌, ◌-◌, ◌<◌, ◌≤◌, true, List, ◌∙◌, arith}
use Rattle.measure.specs.Kind.{Kind}
use Rattle.queue.specs.Held.{Held, Alike, drawn as without}
use Rattle.queue.specs.Calls.{Least}
use Rattle.queue.proofs.Tally.{tally}
use Rattle.waterway.specs.Ways.{Water, Sound, Dear}
use Rattle.waterway.specs.declared.Label.{Label}
use Rattle.waterway.specs.Labels.{label_of}
use Rattle.bundling.specs.declared.Host.{Host}
use Rattle.bundling.specs.declared.Near.{Near}
use Rattle.bundling.specs.Marks.{pivot_in}
use Rattle.bundling.proofs.Steps.{Ready}
use Rattle.relaxing.specs.Offers.{Matched, drawn_of}
use Rattle.relaxing.specs.Search.{Housed, Balled, Ran, StepOne, StepTwo}
use Rattle.relaxing.proofs.Voyage.{H, ReadyAt, drawn_inside, matched_drawn, ready_turned, tally_turned, tally_room}

-- how many pivots are drawn
abbrev pub drawn_in : {C : Type 0} → Kind C → List (Host C) → ℕ → List (Label C) → Held C → ℕ
drawn_in K hosts n labels h = tally (drawn_of (pivot_in K hosts) (label_of K labels) h.key) n

module _ {C : Type 0} {K : Kind C} {W : Water K} {n : ℕ} (S : Sound W n) (dear : Dear W) {hosts : List (Host C)} (housed : Housed W n hosts)
    (home : ℕ) (home_pivot : pivot_in K hosts home ≡ true) {a : List (Label C)} {h i : Held C} (matched : Matched K hosts a h) (ready : ReadyAt W n hosts home a h)
    {u : ℕ} {k : C} (least : Least K.Below h u k) (after : Alike i (without h u)) where
  pub turn_begins : Ready (H S dear housed home home_pivot) (label_of K a) (drawn_of (pivot_in K hosts) (label_of K a) h.key)
  turn_begins = ready S dear housed home_pivot

  pub turn_inside : u < n
  turn_inside = drawn_inside S dear housed home home_pivot matched turn_begins least

  pub turn_matched : Matched K hosts a i
  turn_matched = matched_drawn S dear housed home home_pivot matched turn_begins least after

  module _ {near : List (Near C)} (balled : Balled W n hosts near) {b c : List (Label C)} {j m : Held C}
      (p : Ran W hosts a i b j) (one : StepOne W hosts near a b u n) (q : Ran W hosts b j c m) (two : StepTwo W n hosts b c u n) where
    pub turn_ready : ReadyAt W n hosts home c m
    turn_ready S' dear' housed' pivot = ready_turned S' dear' housed' home pivot matched (ready S' dear' housed' pivot) least after balled p one q two

    up : drawn_in K hosts n c m ≡ drawn_in K hosts n a h + 1
    up = tally_turned S dear housed home home_pivot matched turn_begins least after balled p one q two turn_inside

    room : drawn_in K hosts n a h + 1 ≤ n
    room = tally_room S dear housed home home_pivot matched turn_begins least after balled p one q two turn_inside

    pub turn_falls : n - drawn_in K hosts n c m < n - drawn_in K hosts n a h
    turn_falls = omega (arith, up, room)

    -- the queue has counted the draw
    pub turn_counted : h.draws ≡ drawn_in K hosts n a h → m.draws ≡ drawn_in K hosts n c m
    turn_counted e = omega (arith, up, room, q.steady.draws, p.steady.draws, after.draws, e, S.few)

    pub turn_span : m.span ≡ h.span
    turn_span = q.steady.span ∙ (p.steady.span ∙ after.span)
