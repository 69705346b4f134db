use Rattle.exi_spec.specs.Bits.{bits_of}
use Rattle.exi_events.proofs.Entries.{lent_there, written_there}
use Rattle.exi_events.proofs.value.is_text_at.Goals as goal

pub returns-in-Text : goal.returns-in-Text
returns-in-Text c text is =
    lent_there (bits_of c.args.written.now) c.args.at c.of-there.result c.in-Text.span c.args.value.now text _ c.of-there.ensures.span c.in-Text.is is c.same.ensures

pub returns-in-Written : goal.returns-in-Written
returns-in-Written c text is =
    written_there (bits_of c.args.written.now) c.args.at c.of-there.result c.in-Written.text c.args.value.now text _ c.of-there.ensures.span c.in-Written.is is c.same_str.ensures
