-- A graph as a picture in SVG, given the places of its nodes.
use Rattle.std.specs.Prelude.{ℕ, ◌≡◌, List, [], ◌++◌, codes, decimal, if◌then◌else◌, slice_get}
use Rattle.std.specs.Prelude.{string_bytes, unwrap_or}
use Rattle.std.specs.List.{flat_map}
use Rattle.gb_picture.specs.Escapes.{xml_char}
use Rattle.gb_picture.specs.Graph.{colour_of, is_tinted, line, numbered}
use Rattle.gb_picture.specs.Shown.{bytes_of, shown}
use Rattle.gb_picture.specs.declared.graph.Node.{Node}
use Rattle.gb_picture.specs.declared.graph.Tint.{Tint}
use Rattle.gb_picture.specs.declared.graph.Tint.TheVariants as tints
use Rattle.gb_picture.specs.declared.columns.Frame.{Frame}
use Rattle.gb_picture.specs.declared.columns.Spot.{Spot}

-- a text in XML
abbrev pub xml_text : List ℕ → List ℕ
xml_text text = bytes_of (flat_map xml_char (shown text))

-- the place of the node with a number; the corner if there is none
abbrev pub spot_at : List Spot → ℕ → Spot
spot_at spots number =
    unwrap_or (slice_get spots number) (record { left = 0; top = 0; right = 0; middle = 0 })

abbrev pub curve_begun : Spot → List ℕ
curve_begun from =
    codes "<path d=\"M" ++ decimal from.right ++ codes " " ++ decimal from.middle ++ codes " C"

abbrev pub curve_bent : Spot → Spot → List ℕ
curve_bent from to =
    decimal to.left ++ codes " " ++ decimal from.middle ++ codes " " ++ decimal from.right ++ codes " "
    ++ decimal to.middle ++ codes " "

abbrev pub curve_ended : Spot → List ℕ → List ℕ
curve_ended to style =
    line (decimal to.left ++ codes " " ++ decimal to.middle ++ codes "\" class=\"" ++ style ++ codes "\"/>")

-- A curve from the right side of one node to the left side of the other, drawn in this style.
abbrev pub curve : Spot → Spot → List ℕ → List ℕ
curve from to style = curve_begun from ++ curve_bent from to ++ curve_ended to style

-- A curve for each task that it needs, that it must run after and that finalizes it, each to the one that
-- runs later.
abbrev pub svg_edges : List Spot → ℕ → Node → List ℕ
svg_edges spots number node =
    flat_map (λ one. curve (spot_at spots one) (spot_at spots number) (codes "n")) node.needs.items
    ++ flat_map (λ one. curve (spot_at spots one) (spot_at spots number) (codes "a")) node.runs_after.items
    ++ flat_map (λ one. curve (spot_at spots number) (spot_at spots one) (codes "f")) node.finalizers.items

abbrev pub box_begun : Spot → List ℕ
box_begun spot =
    codes "<g transform=\"translate(" ++ decimal spot.left ++ codes " " ++ decimal spot.top ++ codes ")\">"

-- the colour of a box
abbrev pub box_fill : Tint → List ℕ
box_fill tints.Plain = []
box_fill tint = codes " style=\"fill:" ++ colour_of tint ++ codes "\""

abbrev pub rect_begun : ℕ → List ℕ
rect_begun width = codes "<rect width=\"" ++ decimal width ++ codes "\" height=\"24\" rx=\"4\""

abbrev pub box_sides : ℕ → Tint → List ℕ
box_sides width tint = rect_begun width ++ box_fill tint ++ codes "/>"

abbrev pub box_name : List ℕ → List ℕ
box_name name = line (codes "<text x=\"8\" y=\"16\">" ++ xml_text name ++ codes "</text></g>")

-- a box of this width and colour with the name of the node in it
abbrev pub svg_box : Spot → ℕ → Tint → List ℕ → List ℕ
svg_box spot width tint name = box_begun spot ++ box_sides width tint ++ box_name name

abbrev pub svg_node : ℕ → List Spot → ℕ → Node → List ℕ
svg_node width spots number node =
    svg_box (spot_at spots number) width node.tint (string_bytes node.name)

abbrev pub svg_begun : List ℕ
svg_begun = codes "<svg xmlns=\"http://www.w3.org/2000/svg\""

-- the size of the picture
abbrev pub size_text : Frame → List ℕ
size_text frame =
    codes " width=\"" ++ decimal frame.width ++ codes "\" height=\"" ++ decimal frame.height ++ codes "\""

-- the styles of its curves, and the meaning of each
abbrev pub legend_text : List ℕ
legend_text =
    line (codes " font-family=\"monospace\" font-size=\"12\">")
    ++ line (codes "<style>rect{fill:#eef2f6;stroke:#8896a5}path{fill:none;stroke-width:1.5}")
    ++ line (codes ".n{stroke:#52606d}.a{stroke:#b7791f;stroke-dasharray:6 3}")
    ++ line (codes ".f{stroke:#2b6cb0;stroke-dasharray:2 3}</style>")
    ++ line (codes "<rect width=\"100%\" height=\"100%\" style=\"fill:#ffffff;stroke:none\"/>")
    ++ line (codes "<path d=\"M16 20 H56\" class=\"n\"/><text x=\"64\" y=\"24\">is needed by</text>")
    ++ line (codes "<path d=\"M176 20 H216\" class=\"a\"/><text x=\"224\" y=\"24\">must run before</text>")
    ++ line (codes "<path d=\"M352 20 H392\" class=\"f\"/><text x=\"400\" y=\"24\">is finalized by</text>")

abbrev pub svg_head : Frame → List ℕ
svg_head frame = svg_begun ++ size_text frame ++ legend_text

-- what the colours of these nodes mean, if they have some
abbrev pub colours_text : List Node → List ℕ
colours_text nodes =
    if is_tinted nodes
    then line (codes "<g transform=\"translate(16 28)\">")
    ++ line (codes "<rect width=\"40\" height=\"14\" style=\"fill:orange\"/>")
    ++ line (codes "<text x=\"48\" y=\"12\">runs</text>")
    ++ line (codes "<rect x=\"104\" width=\"40\" height=\"14\" style=\"fill:khaki\"/>")
    ++ line (codes "<text x=\"152\" y=\"12\">may change</text>")
    ++ line (codes "<rect x=\"248\" width=\"40\" height=\"14\" style=\"fill:palegreen\"/>")
    ++ line (codes "<text x=\"296\" y=\"12\">is up to date</text>")
    ++ line (codes "<rect x=\"408\" width=\"40\" height=\"14\" style=\"fill:lightgray\"/>")
    ++ line (codes "<text x=\"456\" y=\"12\">does nothing</text></g>")
    else []

-- the curves, and the boxes over them
abbrev pub svg_text : Frame → List Spot → List Node → List ℕ
svg_text frame spots nodes =
    svg_head frame ++ colours_text nodes ++ numbered (svg_edges spots) 0 nodes
    ++ numbered (svg_node frame.box_width spots) 0 nodes ++ line (codes "</svg>")

-- the text is the picture of these nodes, wherever they are placed
abbrev pub IsSvgOf : List Node → List ℕ → Type 0
IsSvgOf nodes text = (frame : Frame) × (spots : List Spot) × (text ≡ svg_text frame spots nodes)
