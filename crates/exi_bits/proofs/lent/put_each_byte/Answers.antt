use Rattle.std.proofs.Common.{ℕ, ◌+◌, ◌*◌, ◌<◌, [], ◌∷◌, Bool, List, length, sym, subst, arith}
use Rattle.std.specs.List.{AllByRecursion}
use Rattle.exi_spec.specs.Bits.{bits_of}
use Rattle.exi_spec.proofs.BitLaws.{length-bits_of}
use Rattle.exi_bits.specs.Written.{Extends}
use Rattle.exi_bits.proofs.Penned.{bits_of-one}
use Rattle.exi_bits.proofs.Lents.{bytes_join, none_put, part_put, part_room, bytes_within, no_bytes}
use Rattle.exi_bits.proofs.lent.put_each_byte.Goals as goal

pub loop-byte-init : goal.loop-byte-init
loop-byte-init c = record { range = c.requires.range; front = none_put bits_of c.args.room.now c.args.at c.args.bytes.now no_bytes c.requires.clean }

pub overflow_add-at : goal.overflow_add-at
overflow_add-at c =
    omega (
      arith,
      part_room bits_of c.args.room.now c.loop-byte.room c.args.at c.loop-byte.wrote (8 * length c.args.room.now) c.args.bytes.now c.loop-byte.bytes (c.in-Some.byte ∷ []) c.next.new.self bytes_join c.in-Some.ensures (bytes_within c.args.at (8 * length c.args.room.now) c.args.bytes.now c.requires.within) c.loop-byte.invariant.front,
      c.requires.room,
    )

pub put_number-requires-clause-within : goal.put_number-requires-clause-within
put_number-requires-clause-within c =
    omega (
      arith,
      part_room bits_of c.args.room.now c.loop-byte.room c.args.at c.loop-byte.wrote (8 * length c.args.room.now) c.args.bytes.now c.loop-byte.bytes (c.in-Some.byte ∷ []) c.next.new.self bytes_join c.in-Some.ensures (bytes_within c.args.at (8 * length c.args.room.now) c.args.bytes.now c.requires.within) c.loop-byte.invariant.front,
      c.loop-byte.auto.room,
      length-bits_of (c.in-Some.byte ∷ []),
    )

pub overflow_add-wrote : goal.overflow_add-wrote
overflow_add-wrote c =
    omega (
      arith,
      part_room bits_of c.args.room.now c.loop-byte.room c.args.at c.loop-byte.wrote (8 * length c.args.room.now) c.args.bytes.now c.loop-byte.bytes (c.in-Some.byte ∷ []) c.next.new.self bytes_join c.in-Some.ensures (bytes_within c.args.at (8 * length c.args.room.now) c.args.bytes.now c.requires.within) c.loop-byte.invariant.front,
      c.requires.room,
      length-bits_of (c.in-Some.byte ∷ []),
    )

pub loop-byte-preserved : goal.loop-byte-preserved
loop-byte-preserved c = record {
  range = (subst (λ (l : List ℕ). AllByRecursion (λ byte. byte < 256) l) c.in-Some.ensures c.loop-byte.invariant.range).1;
  front =
      part_put bits_of c.args.room.now c.loop-byte.room c.put_number.new.room c.args.at c.loop-byte.wrote 8 c.args.bytes.now c.loop-byte.bytes (c.in-Some.byte ∷ []) c.next.new.self bytes_join c.in-Some.ensures c.loop-byte.invariant.front
      (subst (λ (l : List Bool). Extends c.loop-byte.room c.put_number.new.room (c.args.at + c.loop-byte.wrote) 8 l) (sym (bits_of-one c.in-Some.byte)) c.put_number.ensures);
}
