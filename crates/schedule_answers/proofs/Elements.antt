-- What is read of the element of a body is read of the message's tree: messages of one tree have it alike.
use Rattle.std.proofs.Common.{◌≡◌, ℕ, ◌==◌, Bool, true, false, List, Option, Some, None, refl, sym, ◌∙◌, ap}
use Rattle.exi_documents.specs.Trees.{Tree, none}
use Rattle.document_laws.proofs.Payloads.{payload_decided}
use Rattle.message_parts.specs.Contents.{Inside}
use Rattle.tree_words.specs.Named.{Children, children, first_in, root_children}
use Rattle.tree_words.proofs.Held.{first_is}
use Rattle.iso_schema.specs.Declarations.{schema}
use Rattle.iso_schema.specs.declared.names.TheConstants.{BODY}
use Rattle.iso_parts.specs.declared.frame.Header.{Header}
use Rattle.iso_message.specs.Documents.{iso_tree, IsIso}
use Rattle.iso_message.specs.Message.{body_element_name, body_element_inside}
use Rattle.iso_message.specs.declared.message.BodyElement.{BodyElement}
use Rattle.iso_message.specs.declared.message.IsoMessage.{IsoMessage}

-- of an element of this name, what is read of its children
abbrev pub read_if : {R : Type 0} → Bool → (Children → R) → Inside → Option R
read_if true f own = Some (f (children own))
read_if false f own = None

abbrev read_named : {R : Type 0} → ℕ → (Children → R) → Option (ℕ × Inside) → Option R
read_named name f None = None
read_named name f (Some e) = read_if (e.0 == name) f e.1

abbrev of_tree : {R : Type 0} → ℕ → (Children → R) → Tree → Option R
of_tree name f tree = read_named name f (first_in (root_children tree BODY))

abbrev pub in_body : {R : Type 0} → ℕ → (Children → R) → Option BodyElement → Option R
in_body name f None = None
in_body name f (Some e) = read_if (body_element_name e == name) f (body_element_inside e)

tree_read : {R : Type 0} (name : ℕ) (f : Children → R) (h : Header) (o : Option BodyElement)
    → of_tree name f (iso_tree (record { header = h; body = record { element = o } })) ≡ in_body name f o
tree_read name f h None = refl
tree_read name f h (Some e) = ap (read_named name f) (first_is (body_element_name e) (body_element_inside e) none)

pub one_tree : {R : Type 0} (name : ℕ) (f : Children → R) (m n : IsoMessage) → iso_tree m ≡ iso_tree n
    → in_body name f m.body.element ≡ in_body name f n.body.element
one_tree name f m n same =
    sym (tree_read name f m.header m.body.element) ∙ ap (of_tree name f) same ∙ tree_read name f n.header n.body.element

pub same_tree : (payload : List ℕ) (m n : IsoMessage) → IsIso m payload → IsIso n payload → iso_tree m ≡ iso_tree n
same_tree payload m n p q = (payload_decided schema payload).one_tree (iso_tree m) (iso_tree n) p q
