use Rattle.std.proofs.Common.{arith}
use Rattle.views.specs.Reading.{held}
use Rattle.views.proofs.Views.{within_from_fits}
use Rattle.views.proofs.buffers.CheckedBuffers.text.Goals as goal

pub long_text-requires : goal.long_text-requires
long_text-requires c = within_from_fits (held c.args.self.now.buffers) c.args.view.bytes.now c.requires (omega arith)
