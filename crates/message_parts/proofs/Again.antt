-- A text or a Binary that is spelled somewhere can be taken there again.
use Rattle.std.proofs.Common.{◌≡◌, ℕ, ◌*◌, Bool, true, false, List, drop, subst}
use Rattle.exi_bits.specs.Lent.{Span, SpellsItems, IsSpan}
use Rattle.exi_bits.specs.Reading.{Cursor, ahead}
use Rattle.exi_spec.specs.declared.BitCause.{BitCause}
use Rattle.exi_spec.specs.Items.{Begins, RefusesBits, RefusesChars}
use Rattle.exi_spec.proofs.Readers.{exact, binaries_read, strings_read}

module _ (span : Span) (n : ℕ) (from : Cursor) (counted : n ≡ span.count) (there : from ≡ record { bits = span.bits; place = span.bit }) (held : IsSpan span) where
  abbrev items : List ℕ
  items = held.0

  begins : (is_text : Bool) → span.is_text ≡ is_text → Begins (SpellsItems is_text items) (drop span.bit span.bits)
  begins is_text is = subst (λ (b : Bool). Begins (SpellsItems b items) (drop span.bit span.bits)) is held.1.spelled

  pub text_taken : span.is_text ≡ true → (cause : BitCause) (at : ℕ) → RefusesChars n (ahead from) cause at → ⊥
  text_taken is cause at refuses =
      let b = begins true is in
      let same = subst (λ (k : ℕ). RefusesChars k (ahead from) cause at) counted refuses in
      let here = subst (λ (c : Cursor). RefusesChars span.count (ahead c) cause at) there same in
      (exact _ _ _ (strings_read span.count)).apart items (drop span.bit span.bits) (cause, at) (b.0, b.1, (held.1.long, b.2), b.3) here

  pub bytes_taken : span.is_text ≡ false → (cause : BitCause) → RefusesBits (8 * n) (ahead from) cause → ⊥
  bytes_taken is cause refuses =
      let b = begins false is in
      let same = subst (λ (k : ℕ). RefusesBits (8 * k) (ahead from) cause) counted refuses in
      let here = subst (λ (c : Cursor). RefusesBits (8 * span.count) (ahead c) cause) there same in
      (exact _ _ _ (binaries_read span.count)).apart items (drop span.bit span.bits) cause (b.0, b.1, (held.1.long, b.2), b.3) here
