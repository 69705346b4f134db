use Rattle.app_documents.proofs.Fits.{of_message}
use Rattle.app_documents.proofs.documents_are_messages.Goals as goal

pub returns : goal.returns
returns c number tree bits spelled = of_message number tree bits spelled
