-- What holds of payloads of any dialect whose words are said by tables.
use Rattle.std.proofs.Common.{◌≡◌, ℕ, ◌+◌, ◌*◌, ◌≤◌, true, List, length, Option, Some, None, refl, sym, ◌∙◌, ap, subst, arith}
use Rattle.std.specs.Prelude.{IfSome, slice_get}
use Rattle.document_laws.proofs.Encodings.{encoding_spelled}
use Rattle.document_laws.proofs.Payloads.{payload_decided}
use Rattle.word_tables.proofs.Documents.{encoding_small, document_fits}
use Rattle.word_tables.proofs.Parts.{root_sum}
use Rattle.word_tables.specs.Sizes.{has_narrow_codes, tree_weight, inside_weight}
use Rattle.word_tables.proofs.Few.{few_texts}
use Rattle.word_tables.proofs.Fitted.{root_fits}
use Rattle.word_tables.specs.Counted.{has_few_texts}
use Rattle.kind_laws.specs.Kinds.{FitsSchema}
use Rattle.kind_laws.proofs.Encoded.{encoded}
use Rattle.message_parts.specs.Contents.{Inside, Of, Holding, root_of}
use Rattle.session_words.specs.declared.word.Ask.{Ask}
use Rattle.session_words.specs.declared.word.Ask.TheVariants as ask
use Rattle.session_words.specs.declared.word.Tell.{Tell}
use Rattle.session_words.specs.declared.word.Tell.TheVariants as tell
use Rattle.session_words.specs.declared.word.Word.{Word}
use Rattle.session_words.specs.declared.word.Word.TheVariants as word
use Rattle.message_tables.specs.Frame.{Frame, Message, word_inside, tree_word_by}
use Rattle.message_tables.specs.Laws.{asked_bytes, told_bytes, most_bytes, Dialect, ReadsAsOne, ReadsBack, IsSpelled, IsShort, FitsRoom}
use Rattle.message_tables.proofs.Frames.{ReadsAs, IsGood, AreGood, few_bits, asked_bits, told_bits, most_bits}

some_of : {X : Type 0} (x y : X) → ◌≡◌ {A = Option X} (Some x) (Some y) → x ≡ y
some_of x y same = cc

-- what is written for a word is one
pub one_inside : (in_word : Word → Option Inside) (w : Word) (own other : Inside) → in_word w ≡ Some own → in_word w ≡ Some other → own ≡ other
one_inside in_word w own other is also = some_of own other (sym is ∙ also)

root_word : (f : Frame) (messages : List Message) (root : ℕ) (own : Inside) → tree_word_by f messages (root_of root own) ≡ word_inside f messages own
root_word f messages root (Of value) = refl
root_word f messages root (Holding attributes trees) = refl

-- ---- a header and an end take up to 22 bits

module _ (bits bytes : ℕ) (enough : 22 + bits ≤ 8 * bytes) where
  ask_short : (a : Ask) (n : ℕ) → 8 * n ≤ 22 + asked_bits bits a → n ≤ asked_bytes bytes a
  ask_short (ask.PowerDelivery _ _ _) n h = omega arith
  ask_short other n h = omega arith

  tell_short : (t : Tell) (n : ℕ) → 8 * n ≤ 22 + told_bits bits t → n ≤ told_bytes bytes t
  tell_short (tell.ChargeParameters _ _ _) n h = omega arith
  tell_short other n h = omega arith

-- ---- of a dialect

-- what its tables, and what can be spelled, give
pub record IsSaid (d : Dialect) (bits : ℕ) : Type 0 where
  pub found : slice_get d.schema.roots 0 ≡ Some d.root
  pub few : has_few_texts d.schema ≡ true
  pub narrow : has_narrow_codes 6 d.schema ≡ true
  pub root_few : d.schema.root_bits ≤ 7
  pub enough : 22 + bits ≤ 8 * d.few_bytes
  pub silent : d.in_word word.Nothing ≡ None
  pub reads : (w : Word) → d.CanSpell w → ReadsAs (word_inside d.frame d.messages) (d.in_word w) (d.back w)
  pub good : (w : Word) → d.CanSpell w → AreGood d.schema.kinds d.root.kind (most_bits bits w) (d.in_word w)
  pub brief : (w : Word) → d.CanSpell w → d.IsBrief w → few_bits (d.in_word w)

pub one_word : (d : Dialect) → ReadsAsOne d
one_word d payload w v a b =
    let same = (payload_decided d.schema payload).one_tree a.tree b.tree a.document b.document in
    a.word_is ∙ ap (tree_word_by d.frame d.messages) same ∙ sym b.word_is

module _ (d : Dialect) (bits : ℕ) (said : IsSaid d bits) where
  good_of : (w : Word) (own : Inside) → d.CanSpell w → d.in_word w ≡ Some own → IsGood d.schema.kinds d.root.kind (most_bits bits w) own
  good_of w own can is = subst (λ o. IfSome o (IsGood d.schema.kinds d.root.kind (most_bits bits w))) is (said.good w can)

  pub spelled : IsSpelled d
  spelled w own can is =
      let fit : FitsSchema d.schema (root_of d.root.name own) = root_fits d.schema 0 d.root own said.found (good_of w own can is).holds in
      encoded d.schema (root_of d.root.name own) fit (few_texts d.schema (root_of d.root.name own) said.few fit)

  pub reads_back : ReadsBack d
  reads_back w payload can is = record {
    tree = root_of d.root.name is.own;
    document = encoding_spelled d.schema (root_of d.root.name is.own) payload is.encoding;
    word_is = sym (
        root_word d.frame d.messages d.root.name is.own
        ∙ subst (λ o. ReadsAs (word_inside d.frame d.messages) o (d.back w)) is.own_is (said.reads w can)
        );
  }

  in_bytes : (w : Word) (n : ℕ) (own : Inside) → d.in_word w ≡ Some own → 8 * n ≤ 22 + most_bits bits w → n ≤ most_bytes d.few_bytes w
  in_bytes (word.Request r) n own is h = ask_short bits d.few_bytes said.enough r.ask n h
  in_bytes (word.Reply r) n own is h = tell_short bits d.few_bytes said.enough r.tell n h
  in_bytes word.Nothing n own is h = let none : ◌≡◌ {A = Option Inside} None (Some own) = sym said.silent ∙ is in absurd cc

  pub short : IsShort d
  short w payload can is =
      let tree = root_of d.root.name is.own in
      let few : inside_weight 6 is.own ≤ most_bits bits w = (good_of w is.own can is.own_is).few in
      let sum : tree_weight 6 tree ≡ inside_weight 6 is.own = root_sum 6 d.root.name is.own in
      let bytes : 8 * length payload ≤ 7 + (8 + (d.schema.root_bits + tree_weight 6 tree)) = encoding_small 6 d.schema tree payload said.narrow is.encoding in
      let root_few : d.schema.root_bits ≤ 7 = said.root_few in
      in_bytes w (length payload) is.own is.own_is (omega arith)

  pub fits_room : FitsRoom d
  fits_room w own number can brief is passes =
      let tree = root_of d.root.name own in
      let few : inside_weight 6 own ≤ 8000 = subst few_bits is (said.brief w can brief) in
      let sum : tree_weight 6 tree ≡ inside_weight 6 own = root_sum 6 d.root.name own in
      let root_few : d.schema.root_bits ≤ 7 = said.root_few in
      let light : 8 + (d.schema.root_bits + tree_weight 6 tree) ≤ 8 * 1024 = omega arith in
      document_fits 6 d.schema number tree 1024 said.narrow light passes
