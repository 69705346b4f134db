-- What is written with a pen piece by piece.
use Rattle.std.proofs.Common.{Bool, List, [], ◌++◌, length, refl, sym, ap, ◌∙◌, arith, append_assoc, Result, Ok, Err}
use Rattle.std.proofs.lemmas.List.{length-append, append-nil}
use Rattle.std.specs.Result.{IsErr, OnOk, OnErr}
use Rattle.exi_bits.specs.Pens.{written_bits, Writes, Needs, SamePen}
use Rattle.exi_bits.specs.declared.pen.BitPen.{BitPen}
use Rattle.exi_bits.proofs.Penned.{length-written}
use Rattle.exi_writing.specs.Writing.{Puts, WritesMore}

pub writes_none : (pen : BitPen) → Writes pen pen []
writes_none pen = record { written = sym (append-nil (written_bits pen)); room = refl; lent = refl }

pub writes_same : (old new : BitPen) → SamePen old new → Writes old new []
writes_same old new same = record { written = same.written ∙ sym (append-nil (written_bits old)); room = ap length same.room; lent = same.lent }

pub writes_both : (a b c : BitPen) (x y : List Bool) → Writes a b x → Writes b c y → Writes a c (x ++ y)
writes_both a b c x y p q =
    record {
      written = q.written ∙ ap (λ (l : List Bool). l ++ y) p.written ∙ append_assoc (written_bits a) x y;
      room = q.room ∙ p.room;
      lent = q.lent ∙ p.lent;
    }

-- the room is too small for what comes first, or for what comes behind it
pub needs_more : (pen : BitPen) (x y : List Bool) → Needs pen (length x) → Needs pen (length (x ++ y))
needs_more pen x y n = omega (arith, n, length-append x y)

pub needs_behind : (a b : BitPen) (x y : List Bool) → Writes a b x → Needs b (length y) → Needs a (length (x ++ y))
needs_behind a b x y p n = omega (arith, n, p.room, ap length p.written, length-append (written_bits a) x, length-append x y)

-- what is written had room
pub had_room : (old new : BitPen) (bits : List Bool) → Writes old new bits → Needs old (length bits) → ⊥
had_room old new bits p n =
    absurd (omega (arith, n, p.room, ap length p.written, length-append (written_bits old) bits, length-written new, new.within))

-- ---- results

pub on_err : {T E : Type 0} (r : Result T E) (P : Type 0) → (IsErr r → P) → OnErr r P
on_err (Ok x) P p = tt
on_err (Err e) P p = p refl

pub always_on_err : {T E : Type 0} (r : Result T E) (P : Type 0) → P → OnErr r P
always_on_err r P p = on_err r P (λ _. p)

-- what is written, or nothing where an error leaves the pen as it was
pub more_of : {T E : Type 0} (r : Result T E) (P : List Bool → Type 0) (old new : BitPen) → OnOk r (Puts P old new) → OnErr r (SamePen old new) → WritesMore old new
more_of (Ok x) P old new ok err = (ok.0, ok.2)
more_of (Err e) P old new ok err = ([], writes_same old new err)
