use Rattle.std.proofs.Common.{◌≡◌, ◌+◌, ◌*◌, ◌++◌, take, length}
use Rattle.std.specs.List.{flat_map}
use Rattle.arrayvec.specs.ArrayVec.{array_vec_len}
use Rattle.rfb_wire.specs.declared.client_head.ClientHead.TheVariants.{SetEncodings}
use Rattle.rfb_wire.specs.ClientHead.{client_head_bytes}
use Rattle.rfb_viewer.specs.Messages.{encoding_bytes}
use Rattle.rfb_viewer.proofs.client_messages.spell_encodings.Given as goal

abbrev pub invariant-loop-encoding : goal.invariant-loop-encoding
invariant-loop-encoding l = record {
  items : l.message.items ≡ client_head_bytes (SetEncodings (length l.encodings))
      ++ flat_map encoding_bytes (take l.encoding-index l.encodings);
  len : array_vec_len l.message ≡ 4 + l.encoding-index * 4;
}
