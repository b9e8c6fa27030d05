use Rattle.std.proofs.Common.{refl, ◌∙◌}
use Rattle.amqp_frame.specs.Whole.{is_encoded_value}
use Rattle.amqp_frame.proofs.Whole.{all_of_them}
use Rattle.amqp_frame.proofs.encoded_value.is_encoded_value.Goals as goal

pub returns : goal.returns
returns c =
    let bytes = c.args.bytes.now in
    c.eq.ensures
    ∙ all_of_them bytes c.frame_len.result c.frame_len.ensures.found c.frame_len.ensures.only (is_encoded_value bytes) refl
