mod LineParts
mod Spelled
