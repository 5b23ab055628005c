-- Which bytes of a segment hold records. The rule is this project's own.
use Rattle.std.specs.Prelude.{List, ℕ}
use Rattle.std.specs.List.{flat_map}
use Rattle.segment_core.specs.Segments.{SegmentView}
use Rattle.paged_view.specs.Pages.{used_bytes, body}
use Rattle.paged_view.specs.declared.share.Share.{Share}
use Rattle.paged_view.specs.declared.share.Share.TheVariants as share

-- the bytes of one segment that hold records: the used ones behind its header, all behind its header, or all
abbrev pub share_of : Share → SegmentView → List ℕ
share_of share.Used p = used_bytes p
share_of share.Body p = body p
share_of share.Whole p = p.bytes

-- those of segments, one after the other: a record goes on in the next segment where a segment ends
abbrev pub shares : Share → List SegmentView → List ℕ
shares s ps = flat_map (share_of s) ps
