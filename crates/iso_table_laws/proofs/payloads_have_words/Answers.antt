use Rattle.iso_table_laws.proofs.Payloads.{one_word, reads_back, spelled, short, fits_room}
use Rattle.iso_table_laws.proofs.payloads_have_words.Goals as goal

pub returns-clause-one : goal.returns-clause-one
returns-clause-one c = one_word

pub returns-clause-back : goal.returns-clause-back
returns-clause-back c = reads_back

pub returns-clause-spelled : goal.returns-clause-spelled
returns-clause-spelled c = spelled

pub returns-clause-short : goal.returns-clause-short
returns-clause-short c = short

pub returns-clause-room : goal.returns-clause-room
returns-clause-room c = fits_room
