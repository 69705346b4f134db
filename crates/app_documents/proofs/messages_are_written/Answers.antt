use Rattle.app_documents.proofs.Encoded.{message_encoded}
use Rattle.app_documents.proofs.messages_are_written.Goals as goal

pub returns : goal.returns
returns c m is = message_encoded m is
