-- What `find_map` gives over the numbers from zero.
use Rattle.std.proofs.Common.{◌≡◌, ℕ, ◌+◌, ◌<◌, Option, Some, None, sym, ◌∙◌, ap, IsTrue, MatchOption, arith}
use denote.Param.Members.{Mut, Called}
use Rattle.std.specs.Iterator.Runs.{SomeRun, CallKeepsClosure, AllItemsGive, IsFirstToGive}
use Rattle.std.proofs.lemmas.Iterator.Adapters.{option_map_id}
use Rattle.std.proofs.iter.Yields.{nat_range_steps}
use Rattle.std.proofs.iter.runs.Sources.{range_runs}

module _ {F B : Type 0} {g : Mut F (ℕ × Unit {0}) (Option B)} {f : F} (keeps : CallKeepsClosure g f)
    (Gives : ℕ → Option B → Type 0) (reads : (k : ℕ) (o : Option B) → Called g f (k, tt) o f → Gives k o) where
  -- the first number that gives something, and that each before it gives nothing
  pub found_first : (n : ℕ) (r : Option B)
      → SomeRun nat_range_steps (record { start = 0; end = n }) (λ p. MatchOption r (IsTrue p.whole × AllItemsGive p g f None) (λ y. (i : ℕ) × (i < p.len) × (p.len ≡ i + 1) × IsFirstToGive p g f (Some y) None i))
      → MatchOption r ((k : ℕ) → k < n → Gives k None) (λ y. (i : ℕ) × (i < n) × Gives i (Some y) × ((k : ℕ) → k < i → Gives k None))
  found_first n None (p, from, none) = λ k lt.
      let up = range_runs p p.seen in
      let end : p.from.end ≡ n = ap (λ r. r.end) from in
      let start : p.from.start ≡ 0 = ap (λ r. r.start) from in
      let here : p.at k ≡ Some k = sym (option_map_id (p.at k)) ∙ (up.3 k (omega (arith, up.1 none.0, start, end, lt)) ∙ ap Some (omega (arith, start))) in
      reads k None (rw here at (none.1 keeps k))
  found_first n (Some y) (p, from, (i, lt, len, first)) =
      let up = range_runs p p.seen in
      let end : p.from.end ≡ n = ap (λ r. r.end) from in
      let start : p.from.start ≡ 0 = ap (λ r. r.start) from in
      let here : (k : ℕ) → k < p.len → p.at k ≡ Some k = λ k l. sym (option_map_id (p.at k)) ∙ (up.3 k l ∙ ap Some (omega (arith, start))) in (
        i,
        omega (arith, lt, up.0, end),
        reads i (Some y) (rw (here i lt) at (first keeps).0),
        λ k l. reads k None (rw (here k (omega (arith, l, lt))) at ((first keeps).1 k l)),
      )
