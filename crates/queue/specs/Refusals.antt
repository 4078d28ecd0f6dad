-- The number of each refusal.
use Rattle.std.specs.Prelude.{ℕ}
use Rattle.queue.specs.declared.refusal.Refusal.{Refusal}
use Rattle.queue.specs.declared.refusal.Refusal.TheVariants.{PastSpan, HeldAlready, NotHeld, NotLower}

abbrev pub number_of : Refusal → ℕ
-- the mark is at or above the span
number_of PastSpan = 22
-- the mark has a key already
number_of HeldAlready = 23
-- the mark has no key to lower
number_of NotHeld = 24
-- the key is not below the present one
number_of NotLower = 25
