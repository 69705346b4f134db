use Rattle.app_documents.proofs.OneMessage as message
use Rattle.app_documents.proofs.one_message.Goals as goal

pub returns : goal.returns
returns c m n same = message.one_message m n same
