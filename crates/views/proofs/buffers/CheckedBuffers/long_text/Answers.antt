use Rattle.std.proofs.Common.{rules}
use Rattle.views.specs.Reading.{held}
use Rattle.views.proofs.Views.{in_place}
use Rattle.views.proofs.buffers.CheckedBuffers.long_text.Goals as goal

pub overflow_add-place : goal.overflow_add-place
overflow_add-place c = let h = in_place (held c.args.self.now.buffers) c.args.view.bytes.now c.args.self.now.ends c.requires in search rules

pub overflow_add-result : goal.overflow_add-result
overflow_add-result c = let h = in_place (held c.args.self.now.buffers) c.args.view.bytes.now c.args.self.now.ends c.requires in search rules

pub slice_bounds-result-end : goal.slice_bounds-result-end
slice_bounds-result-end c = let h = in_place (held c.args.self.now.buffers) c.args.view.bytes.now c.args.self.now.ends c.requires in search rules
