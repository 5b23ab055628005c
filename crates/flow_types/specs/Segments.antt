use Rattle.std.specs.Prelude.{ℕ}
use Rattle.flow_types.specs.declared.seg_size.SegSize.{SegSize}
use Rattle.flow_types.specs.declared.seg_size.SegSize.TheVariants as seg_size

-- the bytes of a segment of each size
abbrev pub segment_bytes : SegSize → ℕ
segment_bytes seg_size.K4 = 4096
segment_bytes seg_size.K8 = 8192
segment_bytes seg_size.K16 = 16384
segment_bytes seg_size.K32 = 32768
