-- Why bytes give no stylesheet, by why a pass stopped.
use Rattle.doc_model.specs.declared.flaw.Flaw.{Flaw}
use Rattle.sheet_elements.specs.declared.fault.SheetFault.{SheetFault}
use Rattle.sheet_elements.specs.Faults.{kind_of_flaw}
use Rattle.sheet_reading.specs.declared.stop.ReadStop.{ReadStop}
use Rattle.sheet_reading.specs.declared.stop.ReadStop.TheVariants as reading
use Rattle.sheet_source.specs.declared.error.SourceStop.{SourceStop}
use Rattle.sheet_source.specs.declared.error.SourceStop.TheVariants as source
use Rattle.sheet_compile.specs.declared.stop.CompileStop.{CompileStop}
use Rattle.sheet_compile.specs.declared.stop.CompileStop.TheVariants.{Refused, Memory}

-- a flaw of the lines is a fault of the stylesheet
abbrev pub fault_of_flaw : Flaw → SheetFault
fault_of_flaw flaw = record { line = flaw.line; kind = kind_of_flaw flaw.kind }

abbrev pub stop_of_source : SourceStop → CompileStop
stop_of_source (source.Flawed flaw) = Refused (fault_of_flaw flaw)
stop_of_source source.Memory = Memory

abbrev pub stop_of_reading : ReadStop → CompileStop
stop_of_reading (reading.Refused fault) = Refused fault
stop_of_reading reading.Memory = Memory
