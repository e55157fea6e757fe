-- Why no page was written.
use Rattle.outer_traits.specs.declared.source.ReadStop.{ReadStop}
use Rattle.outer_traits.specs.declared.source.ReadStop.TheVariants as reads
use Rattle.report_view.specs.declared.drawn.ViewStop.{ViewStop}
use Rattle.report_view.specs.declared.drawn.ViewStop.TheVariants as views

abbrev pub stop_of : ReadStop → ViewStop
stop_of reads.SourceFault = views.SourceFault
stop_of reads.TooLong = views.TooLong
stop_of reads.NoMemory = views.NoMemory
