use Rattle.std.proofs.Common.{ℕ, rules, arith, subst}
use Rattle.kind_laws.specs.Laws.{HasEncoding}
use Rattle.session_words.specs.declared.word.Word.TheVariants as word
use Rattle.iso_schema.specs.Declarations.{schema}
use Rattle.iso_message.specs.Documents.{iso_inside, iso_tree, iso_number, PassesBytes}
use Rattle.car_codecs.proofs.Bytes.{front_bytes}
use Rattle.car_codecs.proofs.Results.{is_ok}
use Rattle.car_codecs.proofs.iso.write.Goals as goal

-- it has an encoding
pub write_iso-requires-clause-message : goal.write_iso-requires-clause-message
write_iso-requires-clause-message c =
    let m = c.of_request.result in
    let e : HasEncoding schema (iso_tree m) =
    c.payloads_have_words.ensures.spelled (word.Request c.args.request.now) (iso_inside m) c.requires.request c.of_request.ensures in
    c.messages_are_written.ensures.read m e.payload (c.encodings_are_read.ensures m e.payload e.encoding)

-- the room holds it
pub unwrap-requires : goal.unwrap-requires
unwrap-requires c =
    let m = c.of_request.result in
    let small : PassesBytes m 1024 → ⊥ =
    c.payloads_have_words.ensures.room (word.Request c.args.request.now) (iso_inside m) iso_number c.requires.request tt c.of_request.ensures in
    is_ok c.write_iso.result
    (λ full. small (subst (λ (n : ℕ). PassesBytes m n) c.requires.room (c.write_iso.ensures.full.0 full)))

pub returns-clause-encoded : goal.returns-clause-encoded
returns-clause-encoded c = record {
  can = c.requires.request;
  no_profile = c.requires.no_profile;
  bytes = front_bytes c.unwrap.result c.write_iso.new.room (λ i. omega (arith, c.type_inv.room i));
  written = record { own = iso_inside c.of_request.result; own_is = c.of_request.ensures; encoding = search rules };
}
