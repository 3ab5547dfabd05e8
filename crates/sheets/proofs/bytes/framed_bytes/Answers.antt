-- `sheets::bytes::framed_bytes` meets its contract: the numbers and the frames are one run. Assumes nothing.
use Rattle.linalg.specs.Vector.{vec_numbers}
use Rattle.layout.specs.Layout.{quat_numbers, pose_numbers}
use Rattle.wire.specs.Wire.{word_bytes, number_bytes, numbers_bytes, item_bytes, items_bytes, numbers}
use Rattle.record_result.specs.Framed.{framed_items}
use Rattle.sheets.proofs.bytes.framed_bytes.Goals as goal

pub returns-clause-bytes : goal.returns-clause-bytes
unfolding framed_items pose_numbers quat_numbers vec_numbers numbers items_bytes item_bytes numbers_bytes number_bytes
    word_bytes
returns-clause-bytes c = rw (c.put_short.ensures, c.encode-finite.ensures.out_after) at c.put_short-2.ensures

pub returns-clause-finite : goal.returns-clause-finite
unfolding pose_numbers quat_numbers vec_numbers
returns-clause-finite c = c.encode-finite.ensures.value
