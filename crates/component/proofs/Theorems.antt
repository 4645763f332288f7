-- For other crates. `Setting`: a parameter set keeps the count of inputs. `Count`: no component takes more than three inputs, and a function none.
pub mod Setting
pub mod Count
