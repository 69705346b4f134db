-- The laws of payloads, by those of their tables.
use Rattle.std.proofs.Common.{◌≡◌, Some, refl, lit≤}
use Rattle.message_parts.specs.Contents.{Inside}
use Rattle.session_words.specs.declared.word.Word.{Word}
use Rattle.message_tables.specs.Laws.{ReadsAsOne, ReadsBack, IsSpelled, IsShort, FitsRoom}
use Rattle.message_tables.proofs.Payloads as payloads
use Rattle.message_tables.proofs.Payloads.{IsSaid}
use Rattle.iso_tables.specs.Words.{in_word}
use Rattle.iso_table_laws.specs.Laws.{dialect}
use Rattle.iso_table_laws.proofs.Words.{word_read_back}
use Rattle.iso_table_laws.proofs.Fits.{plain_bits, word_good, brief_bits}

is_said : IsSaid dialect plain_bits
is_said = record {
  found = refl;
  few = refl;
  narrow = refl;
  root_few = lit≤ tt;
  enough = lit≤ tt;
  silent = refl;
  reads = word_read_back;
  good = word_good;
  brief = brief_bits;
}

pub one_word : ReadsAsOne dialect
one_word = payloads.one_word dialect

-- what is written for a word is one
pub one_inside : (w : Word) (own other : Inside) → in_word w ≡ Some own → in_word w ≡ Some other → own ≡ other
one_inside = payloads.one_inside in_word

pub spelled : IsSpelled dialect
spelled = payloads.spelled dialect plain_bits is_said

pub reads_back : ReadsBack dialect
reads_back = payloads.reads_back dialect plain_bits is_said

pub short : IsShort dialect
short = payloads.short dialect plain_bits is_said

pub fits_room : FitsRoom dialect
fits_room = payloads.fits_room dialect plain_bits is_said
