-- Bytes written one after the other.
use Rattle.std.proofs.Common.{◌≡◌, ◌∙◌, ℕ, ◌+◌, ◌≤◌, List, [], ◌++◌, length, sym, refl, ap, subst, arith, length-append}
use Rattle.chartfile.specs.declared.writing.Writer.{Writer}
use Rattle.chartfile.specs.Writing.{Puts}
use Rattle.chartfile.proofs.Splices.{splice_none, splice_on, length_splice}

pub puts_as : {a b : Writer} {xs ys : List ℕ} → xs ≡ ys → Puts xs a b → Puts ys a b
puts_as {a} {b} same puts = subst (λ (bytes : List ℕ). Puts bytes a b) same puts

pub puts_none : (w : Writer) → Puts [] w w
puts_none w = record { same = refl; at = omega arith; buffer = sym (splice_none w.buffer.now w.at) }

module _ {a b : Writer} {xs : List ℕ} (first : Puts xs a b) where
  -- room for n bytes more is left
  pub room_more : (n : ℕ) → a.at + (length xs + n) ≤ length a.buffer.now → b.at + n ≤ length b.buffer.now
  room_more n fits =
      let at = first.at in
      let long = length_splice a.buffer.now a.at xs (omega arith) in
      omega (arith, ap length first.buffer)

  pub puts_more : {c : Writer} {ys : List ℕ} → Puts ys b c → a.at + length xs ≤ length a.buffer.now → Puts (xs ++ ys) a c
  puts_more {c} {ys} more fits = record {
    same = more.same ∙ first.same;
    at = omega (arith, first.at, more.at, length-append xs ys);
    buffer = splice_on a.buffer.now a.at b.at xs ys first.buffer more.buffer fits first.at;
  }
