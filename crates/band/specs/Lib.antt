-- The spans in the bands of a stated total.
pub mod Band
