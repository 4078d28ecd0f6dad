-- What a chart counts, and what is wrong with a line, in words.
use Rattle.std.specs.Prelude.{ℕ, List, ◌++◌, codes}
use Rattle.office.specs.declared.command.Unit.{Unit}
use Rattle.office.specs.declared.command.Unit.TheVariants.{Length, Locks}
use Rattle.office.specs.declared.command.Slip.{Slip}
use Rattle.office.specs.declared.command.Slip.TheVariants.{NoCommand, Form, MeasureNotFirst}

abbrev pub unit_name : Unit → List ℕ
unit_name Length = codes "length"
unit_name Locks = codes "locks"

abbrev pub slip_words : Slip → List ℕ
slip_words NoCommand = codes "no such command"
slip_words (Form form) = codes "write it as: " ++ form.now
slip_words MeasureNotFirst = codes "measure must be the first command"
