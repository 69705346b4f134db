-- Own: open elements as the grammar sees them.
use Rattle.exi_writing.specs.Grammar.{Opened}
use Rattle.exi_events.specs.declared.open.OpenElement.{OpenElement}

abbrev pub opened_of : OpenElement → Opened
opened_of e = record { name = e.name; place = e.place }
